-- Document 01's numbers for an answer as a struct.
pub mod Numbers
