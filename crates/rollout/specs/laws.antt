pub mod Draws
pub mod Rollout
pub mod Until
pub mod RolledSampled
pub mod Worked
