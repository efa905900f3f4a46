pub mod MemoLaws
pub mod Asking
pub mod QuickLaws
pub mod OneReply
