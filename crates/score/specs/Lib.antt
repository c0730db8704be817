pub mod Score
pub mod Result
pub mod Bounds
pub mod laws
