pub mod SpanLemmas
pub mod Settling
