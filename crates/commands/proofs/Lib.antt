pub mod Entries
pub mod Applied
