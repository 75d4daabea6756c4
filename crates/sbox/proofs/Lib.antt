pub mod Rule
pub mod Tested
