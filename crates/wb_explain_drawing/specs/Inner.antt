-- what is left of a listing
pub mod Remaining
-- a byte of a text
pub mod Bytes
