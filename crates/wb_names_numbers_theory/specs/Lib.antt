-- the names by number, and which number a name has
pub mod Numbering
-- nodes that are the same but for how names are given
pub mod Renaming
-- what a file writes on a production, by numbers
pub mod Written
-- what is in one numbered value, in the numbers of another
pub mod Moved
-- numbered lists by what they come from
pub mod Sources
-- what a file says of its names
pub mod Files
-- the rows of what is declared
pub mod Rows
-- the numbered value that a file stands for
pub mod Resolves
-- that there is one such value at most
pub mod OneValue
-- that the rows of one resolved specification are in another
pub mod Carried
-- what is given with a file, and that each value that it stands for is a resolved specification
pub mod Given
