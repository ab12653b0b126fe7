-- what is shown of the tree of a text in the language of files
pub mod ShownIn
-- a picture
pub use Rattle.wb_explain_drawing.specs.Pictures
-- words that ask for a tree
pub mod Asking
