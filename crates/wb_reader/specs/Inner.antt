-- How a specification is read: the grammar as a table, and what its actions build.
-- the forms of items, all right sides, and which tokens decide for which
pub mod ItemRules
pub mod RightSides
pub mod LookaheadTable
-- the grammar as a table, and its laws
pub mod Table
pub mod Laws
-- the beginning of a text, and the regular expressions of items
pub mod Format
pub mod Patterns
