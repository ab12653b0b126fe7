-- numbers as they are counted
pub mod Counted
-- what extensions write
pub mod Written
-- lists as they are gathered
pub mod Gathered
-- lists in the making
pub mod Filled
