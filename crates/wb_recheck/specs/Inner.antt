-- refusals of other crates, as they are handed on
pub mod Handed
-- what the tests of a host tell
pub mod Hosts
-- what the tests of a host with an extension tell
pub mod Extensions
-- grammars that pass their analysis, and texts within a limit
pub mod Fit
