-- the tokens of a text, by their kinds and places
pub mod Tokens
