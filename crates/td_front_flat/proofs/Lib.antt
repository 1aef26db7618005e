pub mod Among
pub mod Blocks
pub mod Scopes
pub mod Linking
pub mod Nones
pub mod Answered
pub mod Lower
