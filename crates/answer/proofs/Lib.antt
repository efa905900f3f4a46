pub mod AnswerLaws
pub mod OneReply
