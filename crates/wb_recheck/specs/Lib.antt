-- the text of the certificate of a grammar, of a host, and of an extension with its host
pub mod CertificateTexts
-- when a text is a certificate of a host or of an extension, and what its first fault is
pub mod Certificates
-- why a host isn't certified by a text
pub mod HostRefusals
-- why an extension isn't certified with its host by a text
pub mod ExtensionRefusals
-- that there is one answer, and refusals are of one sort
pub mod OneAnswer
-- words of `wb_certify` that callers speak of
pub use Rattle.wb_certify.specs.Extensions
pub use Rattle.wb_certify.specs.Kept
pub use Rattle.wb_certify.specs.OneAnswer as OneCertifyAnswer
pub use Rattle.wb_certify.specs.Refusals as BesideRefusals
-- words of `wb_certify_host` that callers speak of
pub use Rattle.wb_certify.specs.Hosts
pub use Rattle.wb_certify.specs.CertifyRefusals
pub use Rattle.wb_certify.specs.WellDefinedHosts
pub use Rattle.wb_certify.specs.certify_refusal
-- words of `wb_names` that callers speak of
pub use Rattle.wb_certify.specs.Resolving
-- words of `wb_determinism_host` that callers speak of
pub use Rattle.wb_certify.specs.DeterminismRefusals
pub use Rattle.wb_certify.specs.determinism_refusal
-- words of private functions
pub mod Inner
