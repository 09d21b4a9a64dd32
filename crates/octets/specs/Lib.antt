-- A run of bytes as one number.
pub mod Eights
