pub mod Joins
pub mod Images
pub mod Eventful
pub mod Moments
mod Idle
pub mod Keeping
pub mod Order
pub mod Gathering
mod Placing
pub mod Bits
pub mod Crashing
pub mod OneSet
pub mod Sets
pub mod Runs
pub mod Reading
