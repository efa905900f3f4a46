pub mod Places
pub mod Lines
pub mod Walk
pub mod EveryOverload
