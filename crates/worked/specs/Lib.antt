pub mod Ciphers
pub mod Values
