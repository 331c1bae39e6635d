pub mod Sides
pub mod Rests
pub mod Returned
