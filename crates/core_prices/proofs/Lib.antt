pub mod Confidence
pub mod Division
