pub mod Types
pub mod Rank
