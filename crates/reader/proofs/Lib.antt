pub mod Apart
pub mod Visits
pub mod Runs
pub mod OneReply
