-- Where a name stands in the bytes; and what is true of the contracts.
pub mod Stretches
pub mod Coincide
pub mod WholeWay
