pub mod Fits
pub mod Shares
pub mod Compared
pub mod Flights
pub mod Extra
