pub mod Bytes
pub mod Codes
pub mod Mapped
pub mod Rounds
