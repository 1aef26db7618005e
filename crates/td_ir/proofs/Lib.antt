pub mod Begins
pub mod Blocks
pub mod Buffers
mod Listed
mod Rows
pub mod Rising
