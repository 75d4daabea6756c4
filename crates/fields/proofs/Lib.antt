pub mod Ends
pub mod Joins
pub mod Laying
pub mod Steps
