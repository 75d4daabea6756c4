pub mod Laying
pub mod Opening
pub mod Back
pub mod Measured
