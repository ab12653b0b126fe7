-- tokens by what they are
pub mod Tokens
-- expressions with names
pub mod Expression
-- which tokens are which expression
pub mod ExpressionGrammar
-- which tokens are which kinds, needs, children and equations
pub mod PartGrammar
-- which tokens are which fields of an item
pub mod Fields
-- which tokens are which items, headers and specifications
pub mod ItemGrammar
-- which bytes are which specification
pub mod SpecText
-- that the names in a specification are names
pub mod Names
-- that the nodes of its equations are whole expressions
pub mod Equations
-- specifications that are the same but for places
pub mod Offsets
-- the canonical text of a specification
pub mod Canonical
