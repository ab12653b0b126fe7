-- entries by their kernel, item and terminal
pub mod Keys
-- with what entries are compared
pub mod References
-- which entry is the first wrong one, and what is missing
pub mod Faults
-- when a text is a certificate of a grammar, and why it isn't
pub mod Texts
-- words of private functions, and what loops keep
pub mod Inner
