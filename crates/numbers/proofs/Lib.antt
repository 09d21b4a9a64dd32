-- That an answer's place fits 32 bits.
pub mod Places
