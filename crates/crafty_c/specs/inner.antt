-- For the contracts of inner functions: what they answer. No public statement cites it.
-- Assumes nothing.
pub mod Reports
pub mod Searches
