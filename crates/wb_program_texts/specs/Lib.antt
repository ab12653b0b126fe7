-- the checks of several extensions
pub mod SeveralChecks
-- when extensions may be composed with a host, and what is read of the files of both
pub mod Composable
-- which of several files is missing or faulty where a run stops
pub mod SeveralStops
-- the attribute that is asked at the root of a text, and what is reported of its value
pub mod Values
-- what each command on a text reports, and which files it comes to read
pub mod Commands
-- that contents, texts and numbers have one answer
pub mod Below
-- words of `wb_program_files` that callers speak of
pub use Rattle.wb_program_files.specs.StatusNumber
pub use Rattle.wb_program_files.specs.Files
pub use Rattle.wb_program_files.specs.Checks
pub use Rattle.wb_program_files.specs.HostChecks
pub use Rattle.wb_program_files.specs.ExtensionChecks
pub use Rattle.wb_program_files.specs.CertificateChecks
pub use Rattle.wb_program_files.specs.Texts
pub use Rattle.wb_program_files.specs.Stops
pub use Rattle.wb_program_files.specs.Stopped
pub use Rattle.wb_program_files.specs.Makes
pub use Rattle.wb_program_files.specs.Excludes
pub use Rattle.wb_program_files.specs.declared.answer
pub use Rattle.wb_program_files.specs.declared.files
pub use Rattle.wb_program_files.specs.declared.status
-- words of `wb_certify_files` that callers speak of
pub use Rattle.wb_program_files.specs.CertificateTexts
pub use Rattle.wb_program_files.specs.Kept
-- words of `wb_compose_texts` that callers speak of
pub use Rattle.wb_compose_texts.specs.Composed
pub use Rattle.wb_compose_texts.specs.Unions
pub use Rattle.wb_compose_texts.specs.Withdrawn
-- words of private functions
pub mod Inner
