pub mod Table
pub mod Limited
pub mod Judged
