-- For the contracts of inner functions: what they ask. No public statement cites it.
-- Assumes nothing.
pub mod Factor
pub mod Build
