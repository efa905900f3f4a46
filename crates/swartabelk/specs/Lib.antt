pub mod Reply
pub mod inner
