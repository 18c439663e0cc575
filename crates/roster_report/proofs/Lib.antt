pub mod Appends
pub mod PeriodText
pub mod LineOf
pub mod NamesOf
pub mod OfPersons
pub mod Told
