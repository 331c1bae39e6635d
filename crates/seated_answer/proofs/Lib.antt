pub mod Rests
pub mod Fours
