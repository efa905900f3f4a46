pub mod Entries
pub mod Fitting
pub mod Outcomes
pub mod OneReply
