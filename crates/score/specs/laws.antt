pub mod Shares
pub mod Score
pub mod Bounds
pub mod Worked
