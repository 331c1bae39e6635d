pub mod Commands
pub mod Laws
pub mod Lines
pub mod Queries
pub mod Reports
pub mod Telling
