pub mod Lanes
pub mod Resting
pub mod Seats
