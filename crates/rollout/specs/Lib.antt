pub mod Draws
pub mod Rollout
pub mod inner
pub mod laws
