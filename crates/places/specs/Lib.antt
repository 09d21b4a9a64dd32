pub mod Itself
pub mod Nested
