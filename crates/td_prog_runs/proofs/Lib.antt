mod PartsMemory
mod Sentence
mod OpenLoops
pub mod Laying
pub mod Sound
mod Entry
