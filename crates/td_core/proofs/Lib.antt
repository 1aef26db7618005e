pub mod Nodes
pub mod Found
pub mod Copies
pub mod Ends
pub mod Fronts
