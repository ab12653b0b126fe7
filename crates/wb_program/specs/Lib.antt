-- what each command reports, and which files it comes to read
pub mod Commands
-- the report of words and files
pub mod Report
-- the causes of ending at a file
pub mod Reads
-- what is written
pub mod Written
-- words have one status, with which a run ends, and one text
pub mod Laws
-- a canonical text is shown as it is
pub mod ShownAgain
-- words of `wb_program_files` that reports are stated with: the statuses as numbers; what is known of files; checks in their order; the
-- checks of a host, how extensions are refused, and the checks of a file with its certificate; a text, and one that is too long; files as
-- what they are read
pub use Rattle.wb_program_texts.specs.StatusNumber
pub use Rattle.wb_program_texts.specs.Files
pub use Rattle.wb_program_texts.specs.Checks
pub use Rattle.wb_program_texts.specs.HostChecks
pub use Rattle.wb_program_texts.specs.ExtensionChecks
pub use Rattle.wb_program_texts.specs.CertificateChecks
pub use Rattle.wb_program_texts.specs.Texts
pub use Rattle.wb_program_texts.specs.Stops
pub use Rattle.wb_program_texts.specs.Excludes
pub use Rattle.wb_program_texts.specs.status
-- words of `wb_program_texts`: the checks of several extensions; the attribute that is asked at the root of a text, and what is reported of
-- its value
pub use Rattle.wb_program_texts.specs.SeveralChecks
pub use Rattle.wb_program_texts.specs.Values
-- words of private functions
pub mod Inner
