pub mod Fronting
pub mod Halves
pub mod Law
pub mod Numbers
pub mod Stream
