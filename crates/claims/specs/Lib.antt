pub mod Demand3
pub mod OneForm
pub mod Brought
pub mod ExactWaits
pub mod AnyOrder
