pub mod Over
pub mod Digits
pub mod Lengths
pub mod Value
pub mod Worked
