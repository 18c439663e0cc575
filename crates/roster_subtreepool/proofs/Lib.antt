pub mod SpanParts
pub mod StepLemmas
pub mod TimesLemmas
pub mod LiesLemmas
