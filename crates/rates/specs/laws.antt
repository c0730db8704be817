pub mod Better
