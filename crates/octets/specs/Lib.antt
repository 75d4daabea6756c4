pub mod Equality
pub mod Fronts
pub mod Hexadecimal
