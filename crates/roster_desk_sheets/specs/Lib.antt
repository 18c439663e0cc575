pub mod Called
pub mod Written
