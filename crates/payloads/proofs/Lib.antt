pub mod Undone
pub mod CredentialsBack
pub mod ReceiptsBack
pub mod SignalsBack
