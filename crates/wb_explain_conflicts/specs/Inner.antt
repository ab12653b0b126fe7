-- what is said of one value and one grammar
pub mod Parts
-- a word, and a piece that is shown or left out
pub mod Pieces
