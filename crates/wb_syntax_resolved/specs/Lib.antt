-- whose a name is, who sees it, and how reports write it
pub mod Owners
-- expressions by numbers
pub mod Expression
-- which nonterminals, attributes, productions and places an owner sees
pub mod Visible
-- that each name is declared where its owner sees it, and has the kind that its place asks for
pub mod Named
-- that extensions declare and write only what they may
pub mod Owned
-- that nothing is declared twice where one owner sees it
pub mod Once
-- that productions and attributes are numbered in order, with the signatures
pub mod Numbered
-- what is an attribution
pub mod Attribution
-- the concrete grammar, and the numbers of nonterminals and terminals by it
pub mod Grammar
-- what is a resolved specification
pub mod Resolved
