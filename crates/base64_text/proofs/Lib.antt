pub mod Alphabet
pub mod Back
pub mod Steps
