-- What several proofs share.
-- Assumes nothing.
pub mod Turns
