pub mod Made
pub mod Tables
