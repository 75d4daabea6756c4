pub mod Bytes
pub mod Chunks
pub mod Columns
pub mod Loops
pub mod MixRule
