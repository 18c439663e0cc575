pub mod OnDay
pub mod JudgedSums
pub mod InRun
pub mod Flown
pub mod Divided
pub mod WholeDuties
pub mod MonthFlight
pub mod ListedFlight
