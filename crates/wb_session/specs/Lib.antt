-- sessions as callers see them, and why an edit is refused
pub mod Sessions
-- where the leaves of a text lie
pub mod Places
-- linked stacks: where a link leads, and the trees that it stands for
pub mod Stacks
-- the stacks that a session keeps
pub mod Kept
-- what a session shows of its fields, and what holds of them
pub mod Views
-- words of `wb_parser` that callers speak of
pub use Rattle.wb_parser.specs.Parses
pub use Rattle.wb_parser.specs.declared.parsed
-- words of `wb_session_theory` that callers speak of
pub use Rattle.wb_session_theory.specs.Edits
-- texts that are kept apart from their language
pub mod KeptTexts
-- words of private functions, and what loops keep
pub mod Inner
