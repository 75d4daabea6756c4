pub mod Statuses
pub mod Words
