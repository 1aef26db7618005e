pub mod Plan
pub mod Events
pub mod Invariant
pub mod View
