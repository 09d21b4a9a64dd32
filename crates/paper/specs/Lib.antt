-- Document 01 as definitions, a file for each of its sections, in its order.
pub mod Sets
pub mod Record
pub mod TurnedAway
pub mod Tree
pub mod Shape
pub mod FreeAndRestricted
pub mod Places
pub mod Scoping
pub mod Demands
pub mod TheList
pub mod Questions
