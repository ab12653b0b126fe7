-- the names of the union's terminals
pub mod Names
-- the signatures of the union's productions
pub mod Signatures
-- a union, and a language of it
pub mod Unions
-- what a text is in a language of the union
pub mod Answers
-- what a text is in the language of a host by itself
pub mod HostTexts
-- the names of the markers without a bare form
pub mod Withdrawn
-- the expressions of a union's terminals and layouts
pub mod Expressions
-- which attribute may be asked at the start of a host with extensions
pub mod Roots
-- what may be asked of a text
pub mod Questions
-- what comes of a text and an attribute
pub mod Values
-- the text that a number makes of a host with extensions
pub mod Generated
-- which terminals of a union are markers
pub mod UnionMarkers
-- a host by itself and with extensions, as both are composed, with the words of `wb_compose`
pub mod Composed
-- a text without markers in the language of a host with extensions
pub mod HostReadings
-- which attributes of a host may be asked, with extensions and without
pub mod SameRoots
-- what a text is to a host with extensions, beside what it is to the host
pub mod Readings
-- what becomes of a text by edits, and the first edit that isn't done
pub mod Edited
-- the lines of a text and of the texts after each edit
pub mod EditAnswers
-- words of `wb_eval_root` that callers speak of
pub use Rattle.wb_eval_root.specs.Answers as RootAnswers
pub use Rattle.wb_eval_root.specs.Asked
pub use Rattle.wb_eval_root.specs.Values as TreeValues
pub use Rattle.wb_eval_root.specs.declared.answer as root_answer
pub use Rattle.wb_eval_root.specs.declared.value as tree_value
-- words of `wb_generate` that callers speak of
pub use Rattle.wb_generate.specs.Laws as GenerateLaws
pub use Rattle.wb_generate.specs.declared.generated as generated_text
-- words of `wb_compose` that callers speak of
pub use Rattle.wb_compose.specs.Attributes
pub use Rattle.wb_compose.specs.Joined
pub use Rattle.wb_compose.specs.Written
-- words of `wb_session` that callers speak of
pub use Rattle.wb_session.specs.Sessions
-- words of `wb_session_theory` that callers speak of
pub use Rattle.wb_session.specs.Edits
-- words of `wb_reading_theory` that callers speak of
pub use Rattle.wb_reading.specs.Markers
-- words of the private functions
pub mod Inner
