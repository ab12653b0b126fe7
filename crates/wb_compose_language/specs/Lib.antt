-- what is lent of an extension
pub mod Additions
-- what is lent of a host with extensions
pub mod Lents
-- the expressions of forms and of layout
pub mod Expressions
-- the language of what is lent
pub mod United
-- what only proofs need
pub mod Inner
