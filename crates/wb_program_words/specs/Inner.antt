-- The values of options, by places of their names.
pub mod Slots
-- What is at the beginning of some words.
pub mod Parts
-- Numbers in decimal digits.
pub mod Numbers
-- The values of options as the code has them.
pub mod Values
