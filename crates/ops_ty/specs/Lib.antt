pub mod Ops
pub mod inner
