-- How two words stand for a set of names, and the least number of a set.
pub mod Words
pub mod Least
pub mod Apart
pub mod Ascending
