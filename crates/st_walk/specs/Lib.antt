pub mod Layers
pub mod Walk
pub mod Listing
pub mod KeyText
pub mod Laws
