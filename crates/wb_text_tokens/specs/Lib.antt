-- the reserved words and the marks, and how each is spelled
pub mod Words
-- which bytes spell which token
pub mod Spelling
-- layout, and how far it goes
pub mod Skipping
-- what is next in a text
pub mod NextToken
-- the kinds of tokens, and the test whether two are the same
pub mod Kinds
-- how a text is printed as a string
pub mod Printing
-- the longest token at the beginning of bytes
pub mod Inner
