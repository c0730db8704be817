pub mod Best
pub mod inner
pub mod laws
