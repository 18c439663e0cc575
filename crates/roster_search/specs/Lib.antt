pub mod Refined
pub mod Branches
pub mod Open
pub mod Limited
