-- The longest token at the beginning of bytes, by what the first byte says.
pub mod Longest
-- a mark, a number, and the parts of strings and regular expressions
pub mod Marks
pub mod Numbers
pub mod Parts
pub mod SameKind
