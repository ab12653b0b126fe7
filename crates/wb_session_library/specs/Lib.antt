-- texts as callers see them
pub mod Views
-- what is held of a text beside its language
pub mod Held
-- what edits make of texts
pub mod Edits
-- where leaves lie
pub mod Places
-- what is at the nodes of trees
pub mod Nodes
-- why contents are refused, in a code and a place
pub mod Reasons
-- why calls by handles are refused
pub mod Refusals
-- the numbers of refusals
pub mod Numbers
-- attributes at the root of a text
pub mod Questions
-- what stays in a workbench
pub mod Kept
-- what calls by handles make of tables
pub mod Workbenches
-- a text's answer in numbers
pub mod Answers
-- words of `wb_session` that callers speak of
pub use Rattle.wb_session.specs.declared.place
pub use Rattle.wb_session.specs.declared.session
-- words of private functions
pub mod Inner
