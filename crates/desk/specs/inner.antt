-- What only the inner functions promise.
pub mod Code
