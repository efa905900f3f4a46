pub mod Alike
pub mod OneReply
