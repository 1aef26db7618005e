pub mod Compiled
pub mod Reported
pub mod Refusals
pub mod Ringed
pub mod Takes
pub mod Answered
