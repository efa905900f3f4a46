pub mod Told
pub mod Desk
pub mod inner
