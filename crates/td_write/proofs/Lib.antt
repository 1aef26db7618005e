pub mod Digits
pub mod Totals
pub mod Settled
pub mod Definitions
pub mod Listed
pub mod Pieces
pub mod Whole
