-- why bytes are no specification that is taken, and which are
pub mod Refusals
-- what the place of a first error says of bytes
pub mod FirstFault
-- which kinds of tokens can come at a place
pub mod Expected
-- that bytes have at most one answer
pub mod OneAnswer
-- the table, what it builds, and why items aren't taken
pub mod Inner
