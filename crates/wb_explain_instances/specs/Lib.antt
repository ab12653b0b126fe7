-- which equation is shown
pub mod Equations
-- a line for each attribute that waits
pub mod Said
-- all that is said of them
pub mod Ends
pub mod Inner
