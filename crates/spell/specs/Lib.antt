pub mod Spell
pub mod Reply
pub mod inner
