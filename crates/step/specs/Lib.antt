pub mod Effect
pub mod Kept
pub mod Lacking
pub mod inner
