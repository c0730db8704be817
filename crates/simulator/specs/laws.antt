pub mod Replay
pub mod Alone
pub mod Scores
pub mod Promise
pub mod Bench
