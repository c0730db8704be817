pub mod Replay
pub mod Alone
pub mod Promise
pub mod inner
pub mod laws
