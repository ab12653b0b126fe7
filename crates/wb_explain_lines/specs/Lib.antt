-- a page on which a report is written
pub mod Page
-- a prefix of bytes that were to be written
pub mod Written
-- what a shelf keeps while it is read
pub mod Outside
-- the parts of a report's line
pub mod Lines
-- words of private functions
pub mod Inner
