pub mod Base64
pub mod Calls
pub mod Groups
pub mod Laws
