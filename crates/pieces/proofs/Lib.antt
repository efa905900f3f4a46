pub mod Chosen
pub mod Pieces
pub mod True
