pub mod Meaning
pub mod Faults
pub mod Refusals
pub mod Calls
pub mod Laws
