pub mod LegalLines
