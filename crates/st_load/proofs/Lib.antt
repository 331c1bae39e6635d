mod Reading
mod Lists
pub mod Jobs
mod Cutting
pub mod Covered
pub mod Finishing
mod Ageing
mod Published
mod Going
mod Steps
mod Rounds
mod Taking
mod Coming
mod Starting
pub mod ReadBack
pub mod Opened
mod Keeping
