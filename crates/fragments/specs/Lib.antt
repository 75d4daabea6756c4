pub mod Cuts
pub mod Progresses
pub mod Refusals
pub mod Rule
pub mod Wholes
