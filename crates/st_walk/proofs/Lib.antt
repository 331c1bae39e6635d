pub mod Headers
pub mod Steps
pub mod Walks
pub mod Left
pub mod Seconds
pub mod Texts
pub mod Fitting
