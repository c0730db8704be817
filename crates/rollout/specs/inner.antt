-- For the contracts of inner functions: what they ask and answer. No public statement cites it.
-- Assumes nothing.
pub mod Ends
pub mod Movable
