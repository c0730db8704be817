-- The proof library for functions over a lent slice of structs. `Walking` is the file to open first.
-- Assumes nothing.
pub mod Walking
pub mod Values
pub mod Functions
pub mod Locals
pub mod Flow
pub mod Forks
pub mod Enums
pub mod Lend
pub mod Reborrow
pub mod Elements
pub mod Arrays
pub mod Passes
pub mod Calls
pub mod Meets
