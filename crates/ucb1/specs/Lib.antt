pub mod Ucb1
pub mod Fair
pub mod laws
