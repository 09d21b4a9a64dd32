pub mod Entered
pub mod Seen
