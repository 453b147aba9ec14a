pub mod Bits
pub mod Links
pub mod Placing
pub mod Slots
