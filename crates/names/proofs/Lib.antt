-- The laws of sets of names in two words, each once over every bit's place, and of the least name of a set.
pub mod Bits
pub mod LeastLaws
pub mod ApartLaws
pub mod AscendingLaws
