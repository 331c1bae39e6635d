pub mod Staying
pub mod Telling
pub mod Reporting
pub mod Commanding
pub mod Naming
pub mod Querying
pub mod Opening
