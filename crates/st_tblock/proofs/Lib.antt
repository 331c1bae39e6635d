pub mod Groups
pub mod Order
mod Keys
mod RestartNumbers
pub mod Fronts
pub mod Footers
mod Shared
mod Sound
pub mod Longer
pub mod Adding
pub mod Finishing
pub mod Following
mod Matching
mod Behind
mod Passing
mod Restarting
