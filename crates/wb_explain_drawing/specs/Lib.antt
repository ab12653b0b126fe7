-- the line and the column of a place of a text
pub mod Reached
-- what is listed of a tree
pub mod Listings
-- what is appended, one part after another
pub mod Pushed
-- a picture
pub mod Pictures
-- how far a listing is made
pub mod Inner
