pub mod Imports
pub mod Answers
pub mod CallEnds
pub mod InputEnds
pub mod Files
pub mod Laws
