pub mod Behaving
