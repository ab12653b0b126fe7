-- which is the first wrong line, and which kernel lacks a move
pub mod Faults
-- the kernels of lines by their numbers, and the places of these
pub mod States
-- what loops keep
pub mod Inner
