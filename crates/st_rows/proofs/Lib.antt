pub mod KeyTexts
pub mod OneList
pub mod Packets
pub mod Values
pub mod OneRows
pub mod Lookups
