pub mod GrammarLemmas
pub mod FormLemmas
pub mod KindLemmas
pub mod KnownLemmas
mod TextMachineLemmas
pub mod WithdrawnLemmas
pub mod MadeLemmas
pub mod WholeLemmas
pub mod LayoutLemmas
mod SpanLemmas
pub mod SharingLemmas
pub mod OpenedLemmas
mod TableLemmas
mod RowLemmas
mod OwnLemmas
mod PreferenceLemmas
mod SetLemmas
mod UnionLemmas
mod PartLemmas
