pub mod TableLemmas
pub mod NameLemmas
pub mod AnswerLemmas
pub mod ComposedLemmas
pub mod WithdrawnLemmas
pub mod AgreesLemmas
mod AddedLemmas
-- two languages of a union have the same answers
pub mod SameLanguage
-- the union of no extensions has the answers of the host's own language
mod HostLemmas
-- two unions of the same extensions are one
pub mod OneUnion
-- a text and an attribute come to one thing
pub mod OneTextValue
-- what comes of what a text was parsed to
pub mod ParsedLemmas
-- what comes of a text in a language that is composed
pub mod ComposedValues
mod LengthLemmas
mod TextLemmas
mod OneLemmas
pub mod BlockLemmas
pub mod MarkingLemmas
pub mod UnionLemmas
pub mod ExtendsLemmas
pub mod ShownLemmas
pub mod PlainLemmas
pub mod AskedLemmas
pub mod ValueLemmas
mod FlagLemmas
-- the first marker of a text in other numbers
pub mod MarkerLemmas
-- a text has one reading, in every order of the extensions
pub mod OneReading
mod ReadingLemmas
-- a host by itself
pub mod AloneLemmas
-- what comes of a text with extensions comes of it without
pub mod ValueAlone
-- lines that are gathered
mod GatheredLemmas
-- the line of what a text is
mod LineLemmas
-- the first edit that isn't done
mod RefusedLemmas
-- how edits go on, and what has come at their end
pub mod WalkLemmas
-- a text with edits has one answer
mod OneEdits
-- lemmas of `wb_eval_root` that callers cite
pub use Rattle.wb_eval_root.proofs.OneAnswer as OneRootAnswer
-- lemmas of `wb_compose` that callers cite
pub use Rattle.wb_compose.proofs.AdditionLemmas
pub use Rattle.wb_compose.proofs.AgreementLemmas
pub use Rattle.wb_compose.proofs.ExistenceLemmas
pub use Rattle.wb_compose.proofs.LawLemmas as ComposeLaws
pub use Rattle.wb_compose.proofs.SpelledLemmas
pub use Rattle.wb_compose.proofs.WrittenApart
-- lemmas of `wb_generate` that callers cite
pub use Rattle.wb_generate.proofs.ExistLemmas
