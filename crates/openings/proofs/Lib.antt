pub mod Opens
pub mod Offers
