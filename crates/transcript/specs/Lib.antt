pub mod Transcript
pub mod inner
pub mod laws
