pub mod Answer
pub mod Trees
pub mod Searches
pub mod OneAnswer
pub mod Total
pub mod Outside
