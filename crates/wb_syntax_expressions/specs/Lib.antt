-- expressions as trees, their nodes, lists of nodes that are one whole expression, and nodes that name nothing
pub mod Expression
-- what is at a place of a list of nodes
pub mod Places
