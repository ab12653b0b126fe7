-- what is shown of a node or a leaf
pub mod Labels
-- the tree of a text by lines
pub mod Lines
-- the tree of a text as a picture
pub mod Pictures
pub mod Inner
