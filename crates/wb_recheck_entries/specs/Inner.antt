-- one entry and another that follows from it
pub mod Steps
-- entries up to a place, and what is known to be listed
pub mod Walks
-- lookaheads of the entries before a place
pub mod Gathering
-- numbers of lines
pub mod Numbers
pub mod Inserted
pub mod Faults
