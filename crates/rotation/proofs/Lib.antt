-- What several proofs share.
-- Assumes nothing.
mod Next
mod Rules
mod Scan
