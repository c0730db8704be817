pub mod Runs
pub mod Shape
pub mod Fields
pub mod Read
pub mod Written
pub mod Worked
