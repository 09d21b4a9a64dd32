pub mod Written
pub mod Walked
