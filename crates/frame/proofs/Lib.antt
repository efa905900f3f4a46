pub mod Marks
pub mod Parts
pub mod Reading
pub mod FrameLaws
pub mod ItemsLaws
pub mod OneReply
