pub mod Lengths
pub mod Meaning
pub mod Messages
pub mod Trip
