pub mod Bounds
pub mod Dominated
