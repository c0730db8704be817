pub mod Ways
pub mod Room
pub mod Lists
pub mod Program
pub mod Verdicts
pub mod OneAnswer
pub mod Total
pub mod Outside
