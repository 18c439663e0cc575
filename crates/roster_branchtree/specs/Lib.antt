pub mod Spans
pub mod Shown
pub mod Watching
