pub mod Credentials
pub mod Receipts
pub mod Signals
pub mod Laws
