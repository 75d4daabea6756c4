pub mod Closed
pub mod Laws
pub mod Open
