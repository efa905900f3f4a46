-- What only the functions for the crates above promise.
pub mod Asks
