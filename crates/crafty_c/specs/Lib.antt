pub mod Answer
pub mod Numbers
pub mod Reports
pub mod Texts
pub mod Trees
pub mod Searches
pub mod inner
pub mod laws
