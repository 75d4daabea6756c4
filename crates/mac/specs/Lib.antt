pub mod Codes
pub mod Hmac
pub mod Parts
pub mod Pbkdf2
