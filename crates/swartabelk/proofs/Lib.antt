pub mod Telling
pub mod Places
pub mod Fitting
pub mod Sheets
pub mod Short
pub mod OneReply
pub mod Sixteen
pub mod Why
