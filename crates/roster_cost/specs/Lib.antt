pub mod Amounts
pub mod Keys
pub mod Priced
