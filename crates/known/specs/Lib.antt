-- What is known of a node, from what is known of its parts; and rows that hold it.
pub mod Needs
pub mod Known
pub mod Rows
