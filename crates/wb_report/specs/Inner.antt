-- Pieces of lines.
pub mod Pieces
