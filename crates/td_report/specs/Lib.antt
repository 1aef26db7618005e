pub mod Imports
pub mod Report
pub mod ErrorLine
pub mod Laws
pub mod Paged
pub mod Summary
