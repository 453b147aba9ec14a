pub mod Outcomes
pub mod Prices
