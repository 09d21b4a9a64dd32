-- A name's stretch as the struct of the C face.
pub mod Stretched
