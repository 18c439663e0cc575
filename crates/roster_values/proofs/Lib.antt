pub mod SetParts
pub mod Words
