pub mod Refusals
pub mod Selection
pub mod Ranges
pub mod Selecting
pub mod Lookups
pub mod SummaryRow
