-- Eight bytes of a name as one number.
pub mod Eights
