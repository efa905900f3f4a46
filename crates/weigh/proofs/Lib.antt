pub mod Weighing
pub mod Firsts
