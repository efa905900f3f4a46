pub mod Puts
pub mod Decimals
pub mod Lengths
pub mod Numbers
pub mod ReadBack
pub mod OneReply
