-- The laws of a name's bytes: one byte more of each walk, bytes compared as one number, and a reserved word as 24 bytes.
pub mod Form
pub mod Eights
pub mod Pairs
pub mod Padding
