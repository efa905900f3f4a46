-- What only the functions for the crates above promise.
pub mod Items
pub mod Payloads
