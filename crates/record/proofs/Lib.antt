-- The laws that the reader's proofs cite.
pub mod Lying
pub mod Verdicts
pub mod StoredLaws
