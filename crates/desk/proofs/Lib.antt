pub mod Finding
pub mod Headers
pub mod Queried
pub mod Telling
pub mod OneReply
pub mod Faithful
