-- new numbers, and what they make of vertices
pub mod Numbers
-- a part of a world in the numbers of another
pub mod Images
-- rows of an attribution in new numbers
pub mod Rows
-- what one owner sees of an attribution
pub mod Seen
-- the union of a host and its extensions
pub mod Unions
-- when a host and extensions were tested
pub mod Tested
-- what the laws say
pub mod Laws
