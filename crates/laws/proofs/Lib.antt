pub mod Same
pub mod Small
pub mod AtLeast
pub mod Within
