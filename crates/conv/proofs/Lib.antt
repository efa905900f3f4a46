pub mod Finite
pub mod Ranks
pub mod Made
pub mod Answered
pub mod OneReply
