pub mod Limits
pub mod Setters
pub mod Start
pub mod Line
pub mod Inside
pub mod Perfection
pub mod laws
