pub mod Putting
pub mod Sending
pub mod Ascending
