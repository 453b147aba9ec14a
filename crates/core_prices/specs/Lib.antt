pub mod Prints
pub mod Prices
