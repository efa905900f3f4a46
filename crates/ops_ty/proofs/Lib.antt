pub mod Pointers
pub mod Ways
pub mod Demand1
pub mod Demand3
pub mod OneReply
pub mod Sixteen
pub mod Growing
pub mod Early
