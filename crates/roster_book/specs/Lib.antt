pub mod View
pub mod Flown
pub mod Keys
pub mod Draft
pub mod Reading
