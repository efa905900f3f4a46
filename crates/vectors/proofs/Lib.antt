pub mod LineLaws
pub mod FillLaws
pub mod OneReply
