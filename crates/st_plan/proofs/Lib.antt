mod Rows
mod Steps
mod Forms
mod Holds
mod Forward
mod Faults
mod Back
mod Finish
mod Texts
mod Named
pub mod OnePlan
mod Standing
