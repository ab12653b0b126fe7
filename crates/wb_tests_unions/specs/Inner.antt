-- Words of private functions.
-- what is found of a certified extension
pub mod Found
-- the same as it is lent to a union, and the union's grammar
pub mod Lent
-- kernels with their lookaheads and tables
pub mod Made
