-- What several proofs share.
-- Assumes nothing.
mod Spelling
mod SpelledLaws
