pub mod Computed
pub mod Enciphered
