mod TestLemmas
pub mod AnswerLemmas
mod ForwardLemmas
