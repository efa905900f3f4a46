-- What only inner functions promise.
pub mod Gap
