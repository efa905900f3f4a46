pub mod Heads
pub mod Params
pub mod Templates
pub mod inner
