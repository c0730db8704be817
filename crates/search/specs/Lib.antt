pub mod Options
pub mod Select
pub mod Iterate
pub mod Search
pub mod Demands
pub mod inner
pub mod laws
