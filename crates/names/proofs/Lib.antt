pub mod Spelling
pub mod Told
