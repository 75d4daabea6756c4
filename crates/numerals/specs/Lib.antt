pub mod Decimals
pub mod Digests
pub mod Laws
