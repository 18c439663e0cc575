pub mod Months
pub mod Carried
