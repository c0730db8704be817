pub mod Known
pub mod Gain
pub mod Bounds
pub mod Names
pub mod Worked
