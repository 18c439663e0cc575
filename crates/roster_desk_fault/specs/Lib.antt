pub mod Firsts
pub mod Kinds
pub mod Told
