pub mod Line
pub mod Rules
pub mod Jobs
pub mod Plans
pub mod Found
pub mod Places
