pub mod Rules
pub mod Judging
pub mod Asking
pub mod Texts
pub mod OneReply
