pub mod Back
pub mod Only
