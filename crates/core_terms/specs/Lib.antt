pub mod Errors
pub mod Params
