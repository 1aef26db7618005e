pub mod Heads
pub mod Still
