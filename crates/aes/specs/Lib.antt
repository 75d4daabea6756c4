pub mod Cipher
pub mod Under
pub mod Words
