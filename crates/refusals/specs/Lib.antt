-- How a refusal is passed on.
pub mod Passed
