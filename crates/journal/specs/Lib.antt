pub mod Split
pub mod Feed
pub mod Parts
pub mod Whole
