pub mod Answers
pub mod Words
pub mod Spellings
pub mod Sizes
pub mod Picked
pub mod Counted
pub mod Whole
