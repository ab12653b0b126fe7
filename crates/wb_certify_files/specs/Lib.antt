-- when contents are a certified host, and what a report shows where they aren't
pub mod HostContents
-- when they stand for no host, and what is shown of that
pub mod Unresolved
-- when they are a host whose attributes are well defined, and what a report shows where they aren't
pub mod WellDefined
-- that contents have one answer
pub mod OneHostAnswer
-- when contents are a certified extension of a host, and what a report shows where they aren't
pub mod ExtensionContents
-- what a specification stands for with a host
pub mod Numbered
-- a file by its first line, and a specification as an extension
pub mod Specifications
-- that contents have one answer
pub mod OneExtensionAnswer
-- which refusals of contents and of a certificate's text are true, by what the contents stand for
pub mod RecheckRefusals
-- when contents are a host that is certified by a text, and what a report shows where they aren't
pub mod RecheckedHosts
-- when contents are an extension that is certified with its host by a text, and what a report shows where they aren't
pub mod RecheckedExtensions
-- that contents and a text have one answer
pub mod OneRecheckAnswer
-- words of `wb_recheck` that callers speak of
pub use Rattle.wb_recheck.specs.BesideRefusals
pub use Rattle.wb_recheck.specs.CertificateTexts
pub use Rattle.wb_recheck.specs.CertifyRefusals
pub use Rattle.wb_recheck.specs.Extensions
pub use Rattle.wb_recheck.specs.Hosts
pub use Rattle.wb_recheck.specs.Kept
pub use Rattle.wb_recheck.specs.Resolving
pub use Rattle.wb_recheck.specs.WellDefinedHosts
pub use Rattle.wb_recheck.specs.certify_refusal
-- words of `wb_certify_shown` that callers speak of
pub use Rattle.wb_certify_shown.specs.Extensions as ShownExtensions
pub use Rattle.wb_certify_shown.specs.Names
pub use Rattle.wb_certify_shown.specs.Shows
-- words of private functions
pub mod Inner
