pub mod Running
pub mod Sha256
pub mod Stands
