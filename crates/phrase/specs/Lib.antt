pub mod Phrase
pub mod inner
