pub mod Limits
pub mod Factor
pub mod Pool
pub mod Build
pub mod inner
pub mod laws
