pub mod Held
pub mod Words
pub mod PieceValues
pub mod Contexts
pub mod PointCounts
pub mod LawfulValues
pub mod Again
