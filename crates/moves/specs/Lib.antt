pub mod Modes
pub mod Rules
pub mod Moves
pub mod inner
pub mod laws
