pub mod Marked
pub mod Coded
