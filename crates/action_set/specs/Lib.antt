pub mod Sets
pub mod Entries
pub mod laws
