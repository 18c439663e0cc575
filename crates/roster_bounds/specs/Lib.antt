pub mod Chosen
pub mod Amounts
