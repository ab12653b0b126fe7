-- trees while they are read from right to left
pub mod Frames
-- the terminals of what is written
pub mod Leaves
