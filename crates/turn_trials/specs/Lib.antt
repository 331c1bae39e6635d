pub mod Halves
pub mod Resting
