mod Levels
mod Blocked
mod Fit
mod Through
mod Fine
mod Weighing
mod Busy
mod Values
mod Stepping
mod Sound
mod Empties
mod Lowered
mod Goods
pub mod Measured
mod Least
pub mod Maps
mod Fitting
pub mod Modules
mod Operands
