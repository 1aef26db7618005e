pub mod Written
pub mod PieceLoads
