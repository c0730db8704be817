pub mod Report
pub mod Judge
pub mod Limits
pub mod Demands
pub mod laws
