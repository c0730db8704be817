pub mod Asked
pub mod Links
pub mod Newest
pub mod Grown
pub mod Ready
