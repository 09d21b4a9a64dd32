-- What follows from the reader's verdict; and what is true of the contracts.
pub mod ByVerdict
pub mod Coincide
pub mod ShutOut
pub mod WholeWay
