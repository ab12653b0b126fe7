-- what a call answers by a number
pub mod Calls
-- what calls write for C
pub mod Written
