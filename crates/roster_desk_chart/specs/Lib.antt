pub mod Bands
pub mod Markup
pub mod Meters
