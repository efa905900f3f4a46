-- What only the functions for the crates above promise.
pub mod Memo
pub mod Asking
pub mod Quick
