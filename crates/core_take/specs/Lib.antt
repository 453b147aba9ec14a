pub mod Uses
pub mod Placing
