pub mod Shaped
pub mod Within
pub mod Renumbered
pub mod Accepting
