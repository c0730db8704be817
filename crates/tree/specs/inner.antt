pub mod Best
pub mod Sound
pub mod Back
pub mod Few
