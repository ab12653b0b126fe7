-- what is wrong in an expression
pub mod Wrong
-- what makes a value of one kind of one of another
pub mod Steps
-- what is said of it
pub mod Said
pub mod Inner
