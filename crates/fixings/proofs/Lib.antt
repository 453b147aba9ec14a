pub mod Fixes
pub mod Stored
pub mod Waits
