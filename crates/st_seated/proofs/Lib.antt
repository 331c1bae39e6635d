pub mod Grown
pub mod Seen
pub mod Turned
pub mod Stored
pub mod Sits
