pub mod Packets
pub mod Source
pub mod Laws
pub mod Queries
pub mod Summary
pub mod Asking
pub mod Drilling
pub mod Summarizing
