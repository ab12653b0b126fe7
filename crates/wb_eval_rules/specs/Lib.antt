-- equations by what they are for
pub mod Indexes
-- expressions as code
pub mod Code
-- the code of each expression of a production
pub mod Codes
-- words of private functions
pub mod Inner
