-- Words of private functions: what is made of extensions in their order; what is reported of a text, and of a file of edits; where the text
-- of a run comes from.
pub mod Several
pub mod OfTexts
pub mod EditFiles
pub mod Sources
