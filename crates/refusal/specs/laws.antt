pub mod Judge
pub mod Demands
pub mod Limits
