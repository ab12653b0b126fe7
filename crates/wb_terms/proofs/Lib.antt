pub mod AnswerLemmas
pub mod BeginLemmas
pub mod Complete
pub mod EndLemmas
pub mod FitLemmas
pub mod HoldLemmas
pub mod KindLemmas
pub mod LeastLemmas
pub mod LongLemmas
pub mod MeetLemmas
mod NameLemmas
mod NextLemmas
pub mod OntoLemmas
pub mod PendingLemmas
mod PlainLemmas
pub mod PrintedLemmas
pub mod ReadLemmas
pub mod ReadingLemmas
pub mod Sound
pub mod TreeLemmas
