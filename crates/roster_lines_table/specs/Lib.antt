pub mod Entries
pub mod Rows
pub mod Tree
pub mod Person
