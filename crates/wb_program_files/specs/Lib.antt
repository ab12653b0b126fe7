-- the statuses as numbers
pub mod StatusNumber
-- what is known of files
pub mod Files
-- what is read of a file
pub mod Contents
-- how reports are stated: checks in their order
pub mod Checks
-- the checks of a host
pub mod HostChecks
-- how extensions are refused
pub mod ExtensionChecks
-- the checks of a file with its certificate
pub mod CertificateChecks
-- a text, and one that is too long
pub mod Texts
-- files as what they are read, and which one is missing or faulty where a run stops
pub mod Stops
-- why a run stops at a file, and what a shelf keeps meanwhile
pub mod Stopped
-- what a run that reads files makes
pub mod Makes
-- what each command on files that stand alone reports, and which files it comes to read
pub mod Commands
-- that contents have one answer
pub mod Excludes
-- words of `wb_certify_files` that callers speak of
pub use Rattle.wb_certify_files.specs.CertificateTexts
pub use Rattle.wb_certify_files.specs.ExtensionContents
pub use Rattle.wb_certify_files.specs.Extensions
pub use Rattle.wb_certify_files.specs.HostContents
pub use Rattle.wb_certify_files.specs.Hosts
pub use Rattle.wb_certify_files.specs.Kept
pub use Rattle.wb_certify_files.specs.OneExtensionAnswer
pub use Rattle.wb_certify_files.specs.OneRecheckAnswer
pub use Rattle.wb_certify_files.specs.Specifications
pub use Rattle.wb_certify_files.specs.declared.extension_refusal
-- words of private functions
pub mod Inner
