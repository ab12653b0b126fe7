-- how far two texts are the same, and how far a number goes
pub mod Lengths
