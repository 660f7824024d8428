pub mod AskMoves
pub mod Covering
pub mod LookMoves
pub mod ScopeMoves
pub mod StageMoves
