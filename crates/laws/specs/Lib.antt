pub mod Bits
pub mod Lists
pub mod Floats
pub mod inner
pub mod laws
