pub mod Sqrt
pub mod Root
pub mod inner
pub mod laws
