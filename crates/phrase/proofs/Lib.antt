pub mod Phrasing
