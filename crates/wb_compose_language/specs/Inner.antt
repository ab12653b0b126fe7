-- how many symbols a union has
pub mod Totals
-- an automaton by which expressions are asked for texts
pub mod TextMachines
-- what is known of own terminals
pub mod Known
-- what is known of a host with extensions while forms are made
pub mod Opened
-- which terminals share a text with an expression
pub mod Sharing
-- forms of the union as they are made
pub mod FormsMade
-- layout of the union as it is made
pub mod Layouts
-- numbers of the union, and preferences as they are gathered
pub mod Rows
-- which forms are considered at each state
pub mod Sets
-- a language's parts as they are made
pub mod Made
