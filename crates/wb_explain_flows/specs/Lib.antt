-- lines that show a place of a text
pub mod Places
-- chains of vertices each of which needs the next
pub mod Chains
-- by which equation a vertex reads another
pub mod Rules
-- what is said of a chain of reads
pub mod Steps
-- why a chain is shown
pub mod Reads
-- what is said of the attributes of a value
pub mod Said
pub mod Inner
