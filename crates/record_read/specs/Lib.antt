pub mod Tags
pub mod Records
pub mod Outcomes
