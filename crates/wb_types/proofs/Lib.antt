pub mod AnswerLemmas
mod AtLemmas
pub mod NodeLemmas
pub mod OperationLemmas
pub mod PassLemmas
mod PlaceLemmas
