-- What the reader's arrays say of the lists that document 01's definitions speak of: for one record, and for all that were read.
pub mod Rows
pub mod Faults
pub mod Fields
pub mod Heads
pub mod Ends
pub mod Naming
pub mod Decoded
pub mod Columns
pub mod Starts
