pub mod Ranges
pub mod Times
