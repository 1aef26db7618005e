pub mod Goods
mod Values
mod Activation
mod Steps
mod Plain
mod Loading
mod Zeros
mod Zeroterm
mod Copying
mod Loops
mod Calling
mod Blocks
pub mod Whole
