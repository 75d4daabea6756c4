pub mod Back
pub mod Characters
pub mod Least
pub mod Reading
pub mod Steps
