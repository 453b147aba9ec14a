pub mod Answers
pub mod Commands
