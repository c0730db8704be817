pub mod Durability
pub mod Parts
pub mod Step
pub mod inner
pub mod laws
