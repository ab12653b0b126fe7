-- How a canonical text is put together. What it is is in `wb_syntax`.
-- the tokens of expressions, of the parts of items, and of items
pub mod ExpressionTokens
pub mod PartTokens
pub mod ItemTokens
-- how tokens are added to a text
pub mod Output
-- what of an expression is still to come
pub mod Walk
