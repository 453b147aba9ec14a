pub mod Little
pub mod Offsets
pub mod TwosComplement
