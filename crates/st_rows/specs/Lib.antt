pub mod Positions
pub mod Values
pub mod KeyOrder
pub mod Rows
pub mod Whole
pub mod Laws
