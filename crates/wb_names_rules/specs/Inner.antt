-- what passes and look-ups say
pub mod Indexed
-- what names and labels mean
pub mod Reads
-- what each test answers
pub mod Tests
-- where a base's closed nonterminals are declared
pub mod Closed
-- whose declarations are
pub mod Owners
-- what all tests together answer
pub mod Passing
