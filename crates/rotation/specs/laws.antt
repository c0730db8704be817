pub mod Words
pub mod Told
pub mod First
pub mod Count
pub mod Lines
pub mod Seconds
pub mod Round
pub mod Worked
