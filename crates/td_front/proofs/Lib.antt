pub mod Trees
pub mod Inputs
pub mod Texts
pub mod Counts
pub mod Answering
pub mod Memory
pub mod Passing
pub mod Checked
