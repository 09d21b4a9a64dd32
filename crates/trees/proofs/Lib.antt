-- What a walk knows of a node that it reads.
pub mod Arms
pub mod Sorts
pub mod ByKind
pub mod Shapes
pub mod Joins
