-- What is known of bytes that the reader accepted.
pub mod Ready
