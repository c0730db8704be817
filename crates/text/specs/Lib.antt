-- The definitions that the contracts cite, their laws and the theorems.
-- Assumes nothing.
pub mod Bytes
pub mod Over
pub mod Digits
pub mod Decimal
pub mod Hex
pub mod Reading
pub mod inner
pub mod laws
