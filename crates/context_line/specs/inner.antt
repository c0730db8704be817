-- For the contracts of inner functions: what the code keeps, and what they ask. No public statement cites it.
-- Assumes nothing.
pub mod Fields
pub mod Line
