pub mod Holds
pub mod Told
