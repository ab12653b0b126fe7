-- When a text is a certificate of a host, or of a host with an extension, and what its first fault is.
use Rattle.std.specs.Prelude.{◌≡◌, ℕ, List, Some}
use Rattle.wb_base.specs.Grammar.{GrammarView}
use Rattle.wb_certify.specs.Extensions.{AreMarkersKept, IsOneExtension}
use Rattle.wb_certify.specs.DeterministicHosts.{IsFitForParsing}
use Rattle.wb_marking_holes.specs.Holes.{with_holes_of}
use Rattle.wb_certify.specs.Resolving.{ResolvesExtension}
use Rattle.wb_recheck_entries.specs.Texts.{HasCertificate, IsExtensionHead, IsFault, IsHostHead}
use Rattle.wb_recheck_entries.specs.declared.fault.CertificateFault.{CertificateFault}
use Rattle.wb_syntax_resolved.specs.declared.resolved.ResolvedParts.{ResolvedParts}
use Rattle.wb_syntax.specs.SpecText.{SpecView}

-- the text is a certificate of a resolved host: one of its grammar with holes, with its name
pub record IsCertificateOfHost (r : ResolvedParts) (text : List ℕ) : Type 0 where
  pub grammar : GrammarView
  pub start : r.grammar ≡ Some grammar
  pub is : HasCertificate text (IsHostHead r.host) (with_holes_of grammar r.extensible)

-- a resolved host is fit for parsing, and of its certificates the text is none for this reason, the first that holds
pub record IsFaultOfHost (r : ResolvedParts) (text : List ℕ) (fault : CertificateFault) : Type 0 where
  pub grammar : GrammarView
  pub start : r.grammar ≡ Some grammar
  pub fit : IsFitForParsing r grammar
  pub first : IsFault text (IsHostHead r.host) (with_holes_of grammar r.extensible) fault

-- the text is a certificate of an extension, where this is its host with it: one of their grammar with holes, with the names of both
pub record IsCertificateOfExtension (r : ResolvedParts) (text : List ℕ) : Type 0 where
  pub name : List ℕ
  pub one : IsOneExtension r name
  pub grammar : GrammarView
  pub start : r.grammar ≡ Some grammar
  pub is : HasCertificate text (IsExtensionHead name r.host) (with_holes_of grammar r.extensible)

-- the markers of an extension, where this is its host with it, keep their rules, both together are fit for parsing, and of the extension's
-- certificates the text is none for this reason, the first that holds
pub record IsFaultOfExtension (r : ResolvedParts) (text : List ℕ) (fault : CertificateFault) : Type 0 where
  pub name : List ℕ
  pub one : IsOneExtension r name
  pub grammar : GrammarView
  pub start : r.grammar ≡ Some grammar
  pub markers : AreMarkersKept r grammar
  pub fit : IsFitForParsing r grammar
  pub first : IsFault text (IsExtensionHead name r.host) (with_holes_of grammar r.extensible) fault

-- the specification is an extension of this host whose names are right, and the text is a certificate of it
pub record HasExtensionCertificate (host : ResolvedParts) (spec : SpecView) (text : List ℕ) : Type 0 where
  pub resolved : ResolvedParts
  pub names : ResolvesExtension host spec resolved
  pub is : IsCertificateOfExtension resolved text
