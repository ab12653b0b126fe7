-- what a user asks of the program, and what the command that is answered asks
pub mod Asked
-- how words split into options and positional words
pub mod Options
-- the values of options
pub mod OptionValues
-- the commands and their options, as tables
pub mod Rows
-- which words ask what
pub mod Words
-- the line for words that ask nothing
pub mod Usage
-- words ask one thing at most
pub mod Laws
-- what only proofs need
pub mod Inner
