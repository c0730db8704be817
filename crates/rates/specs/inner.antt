-- For the contracts of inner functions: what they ask and give. No public statement cites it.
-- Assumes nothing.
pub mod Holds
