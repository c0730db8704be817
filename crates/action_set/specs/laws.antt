pub mod Sets
pub mod Nth
