mod AllReports
mod AnswerLemmas
mod Answering
mod CauseLemmas
mod CertificateLemmas
mod Known
pub mod OneReport
mod ReportLaws
pub mod ShownAgain
-- lemmas of `wb_program_files` and `wb_program_texts` that callers speak of
pub use Rattle.wb_program_texts.proofs.Excludes
pub use Rattle.wb_program_texts.proofs.OneCheck
pub use Rattle.wb_program_texts.proofs.OneSeveralReport
