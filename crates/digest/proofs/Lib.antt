pub mod Chunks
pub mod Lengths
pub mod Made
pub mod Pieces
pub mod Rounds
pub mod Steps
