pub mod FileNames
pub mod Counting
pub mod Numbers
pub mod Failures
pub mod FailureLines
