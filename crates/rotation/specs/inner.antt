-- For the contracts of inner functions: what the code keeps. No public statement cites it.
-- Assumes nothing.
pub mod Told
pub mod Counted
pub mod Lines
