pub mod Filled
pub mod Product
