mod Assigns
mod Endings
mod Refusals
mod Tellings
