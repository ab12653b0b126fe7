pub mod DigitLemmas
pub mod EntryLemmas
pub mod KeptLemmas
pub mod KindLemmas
pub mod StandardLemmas
