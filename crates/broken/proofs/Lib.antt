pub mod Rules
pub mod Refused
