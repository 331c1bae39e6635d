mod Texts
mod KeyOrder
mod StoredBlocks
mod RowKeys
mod Rooms
mod Built
mod Ending
pub mod Rising
pub mod OneTable
pub mod Entries
pub mod Walking
pub mod Lookups
pub mod Indexes
pub mod Blocks
pub mod Finding
pub mod Entering
pub mod Values
pub mod Tables
pub mod Marking
pub mod Ranges
pub mod Advancing
pub mod Stepping
pub mod Coming
pub mod Naming
pub mod Joining
