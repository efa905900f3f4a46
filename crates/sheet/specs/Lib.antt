pub mod Machine
pub mod Kept
pub mod Single
pub mod inner
