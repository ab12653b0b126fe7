-- left sides and widths of productions
pub mod Rules
-- chains of reductions that take one symbol each, and their ends
pub mod Chains
-- actions as numbers
pub mod Codes
-- what is kept of chains and of actions
pub mod Kept
-- the states of a stack of trees, and what a reduction does to them
pub mod Stacks
-- what states stand for on a text, and what can be done on the terminal that is next
pub mod Steps
-- words of private functions
pub mod Inner
