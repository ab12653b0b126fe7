-- bytes in classes as they are told apart
pub mod ClassPasses
-- places that are met one after another
pub mod Closures
-- the nodes of several expressions, one after the other
pub mod Concatenated
-- places as they are made from nodes
pub mod Machines
-- nodes whose parts come before them
pub mod Parts
-- machines in which steps are left out
pub mod Shortcuts
-- the starts of sets as they are listed
pub mod Starts
pub mod Bounds
