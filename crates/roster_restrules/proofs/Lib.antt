pub mod Blocks
pub mod DutyDays
pub mod DaysOff
pub mod Nights
pub mod Rested
pub mod TimedLists
