pub mod CellMaps
mod Chain
pub mod Flat
mod Marking
pub mod Same
pub mod Sums
mod Registers
pub mod Safety
mod Loops
mod Tops
