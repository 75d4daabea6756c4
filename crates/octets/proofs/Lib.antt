pub mod Agreement
pub mod Characters
