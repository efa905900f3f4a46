pub mod Overload
pub mod Marks
pub mod Rows
pub mod inner
