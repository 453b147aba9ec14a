pub mod Looks
pub mod Refusals
