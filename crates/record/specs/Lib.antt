-- How the reader keeps in memory what document 01's definitions speak of.
pub mod Arena
pub mod Stored
