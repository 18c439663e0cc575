pub mod View
pub mod Sound
pub mod Sectors
pub mod Duties
pub mod Costs
pub mod Placing
