pub mod Durability
pub mod Parts
pub mod Step
pub mod Candidate
