-- a language with its tables, as callers see it
pub mod Views
-- what is kept of a state of an automaton in one word
pub mod Words
-- what is known of the states of an automaton before a text is scanned
pub mod Landings
-- what a scan answers
pub mod Scans
-- the language of a grammar whose terminals are all written as they are
pub mod Bare
-- why there is none, each reason with a true example where no earlier one holds
pub mod Refusals
-- what loops keep, and words of private functions
pub mod Inner
