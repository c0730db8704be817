pub mod Line
pub mod Inside
pub mod Setters
