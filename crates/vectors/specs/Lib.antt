pub mod Filled
pub mod Chars
pub mod Lines
pub mod Replay
