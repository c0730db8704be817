pub mod Limits
pub mod Factor
pub mod FactorWorked
pub mod Build
pub mod Worked
