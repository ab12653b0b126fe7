-- with which code and place refusals of contents are told
pub mod Reasons
-- why a text isn't taken for its length
pub mod Lengths
-- a text that is kept to be edited
pub mod Kept
