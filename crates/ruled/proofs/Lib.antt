pub mod Codes
pub mod Outcomes
pub mod Loaded
pub mod Demands
pub mod OneReply
pub mod Growing
pub mod Early
