-- The definitions that the contracts cite, their laws and the theorems.
-- Assumes nothing.
pub mod Shape
pub mod Fields
pub mod Read
pub mod inner
pub mod laws
