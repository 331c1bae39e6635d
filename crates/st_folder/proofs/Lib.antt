pub mod Numerals
pub mod Namings
pub mod Drafts
