pub mod Entries
pub mod Fits
pub mod Given
pub mod Parts
pub mod Series
pub mod Whole
