pub mod States
pub mod Refusals
pub mod Coverage
