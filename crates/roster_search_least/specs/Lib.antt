pub mod Least
pub mod Firsts
pub mod Parts
