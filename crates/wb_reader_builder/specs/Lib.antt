-- what is read so far, and what names, integers, strings and regular expressions add
pub mod Builder
-- what actions make of the parts of expressions
pub mod Expressions
-- of kinds, flow types, children and equations
pub mod Parts
-- of headers, items and productions, and what reserved words add
pub mod Items
-- what an action makes of the parts
pub mod Actions
-- words of private functions
pub mod Inner
