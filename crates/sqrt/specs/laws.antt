pub mod Cut
pub mod Scaled
pub mod Patterns
pub mod Cases
pub mod Right
pub mod Bounds
pub mod Order
pub mod Worked
