-- The definitions that the contracts cite, their laws and the theorems.
-- Assumes nothing.
pub mod Gaps
pub mod Words
pub mod First
pub mod Lines
pub mod Seconds
pub mod inner
pub mod laws
