pub mod Growth
mod Taken
mod Lines
mod Passed
