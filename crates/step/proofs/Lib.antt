pub mod StackLaws
pub mod Answers
pub mod Effects
pub mod Items
pub mod OneReply
pub mod Keeping
pub mod Growing
