pub mod Refusing
pub mod Valued
pub mod Long
pub mod Examples
pub mod OneReply
pub mod Worked
