-- What is refused or certified by a text is refused or certified without it.
use Rattle.std.proofs.Common.{inl, inr, ℕ, List}
use Rattle.wb_certify_files.specs.ExtensionContents.{IsExtensionRefusal, IsOfKinds as IsExtensionOfKinds}
use Rattle.wb_certify_files.specs.HostContents.{IsHostRefusal, IsHostText, IsOfKinds as IsHostOfKinds}
use Rattle.wb_certify_files.specs.declared.extension_refusal.FileRefusal.{FileRefusal}
use Rattle.wb_certify_files.specs.declared.extension_refusal.FileRefusal.TheVariants as f
use Rattle.wb_certify_files.specs.declared.host_refusal.HostRefusal.TheVariants as h
use Rattle.wb_recheck.specs.certify_refusal.CertifyRefusal.{CertifyRefusal}
use Rattle.wb_recheck.specs.certify_refusal.CertifyRefusal.TheVariants as c
use Rattle.wb_operations.specs.Operations.{OperationSignature}
use Rattle.wb_recheck.specs.OneAnswer.{IsOfKinds}
use Rattle.wb_report.specs.declared.refusal.Refusal.{Refusal}
use Rattle.wb_syntax_resolved.specs.declared.resolved.ResolvedParts.{ResolvedParts}
use Rattle.wb_certify_files.specs.RecheckedExtensions.{IsRefusedExtension}
use Rattle.wb_certify_files.specs.RecheckedHosts.{IsRecheckedHost, IsRefusedHost}
use Rattle.wb_certify_files.specs.declared.contents_refusal.ContentsRefusal.TheVariants as k

-- a rule of kinds is one
host_kinds : (rule : CertifyRefusal) → IsOfKinds rule → IsHostOfKinds rule
host_kinds (c.Names x) is = absurd is
host_kinds (c.Types x) is = tt
host_kinds c.NoStart is = absurd is
host_kinds (c.Determinism x) is = absurd is
host_kinds (c.Attributes x) is = absurd is
host_kinds (c.NoMemory x) is = absurd is

of_host_kinds : (rule : CertifyRefusal) → IsHostOfKinds rule → IsOfKinds rule
of_host_kinds (c.Names x) is = absurd is
of_host_kinds (c.Types x) is = tt
of_host_kinds c.NoStart is = absurd is
of_host_kinds (c.Determinism x) is = absurd is
of_host_kinds (c.Attributes x) is = absurd is
of_host_kinds (c.NoMemory x) is = absurd is

extension_kinds : (rule : CertifyRefusal) → IsOfKinds rule → IsExtensionOfKinds rule
extension_kinds (c.Names x) is = absurd is
extension_kinds (c.Types x) is = tt
extension_kinds c.NoStart is = absurd is
extension_kinds (c.Determinism x) is = absurd is
extension_kinds (c.Attributes x) is = absurd is
extension_kinds (c.NoMemory x) is = absurd is

of_extension_kinds : (rule : CertifyRefusal) → IsExtensionOfKinds rule → IsOfKinds rule
of_extension_kinds (c.Names x) is = absurd is
of_extension_kinds (c.Types x) is = tt
of_extension_kinds c.NoStart is = absurd is
of_extension_kinds (c.Determinism x) is = absurd is
of_extension_kinds (c.Attributes x) is = absurd is
of_extension_kinds (c.NoMemory x) is = absurd is

module _ (operations : List OperationSignature) (contents text : List ℕ) where
  -- a refused host
  pub host_specification : (shown : Refusal) → IsRefusedHost operations contents text (k.File (f.Specification shown))
      → IsHostRefusal operations contents (h.Specification shown)
  host_specification shown (inl (inl bad)) = inl bad
  host_specification shown (inl (inr bad)) = inr (inl bad)
  host_specification shown (inr is) = inr (inr (record {
    value = is.value;
    stands = is.stands;
    refusal = is.refusal;
    reason = is.reason.0;
    meets = host_kinds is.refusal is.meets;
    shows = is.shows;
  }))

  pub host_certification : (shown : Refusal) → IsRefusedHost operations contents text (k.File (f.Certification shown))
      → IsHostRefusal operations contents (h.Certification shown)
  host_certification shown is = record {
    value = is.value;
    stands = is.stands;
    refusal = is.refusal;
    reason = is.reason.0;
    meets = λ kinds. is.meets (of_host_kinds is.refusal kinds);
    shows = is.shows;
  }

  -- a certified one
  pub host_text : (r : ResolvedParts) → IsRecheckedHost operations contents text r → IsHostText operations contents r
  host_text r is = record { stands = is.stands; certified = is.certified }

  -- a refused extension
  pub extension_file : (host : ResolvedParts) (refusal : FileRefusal) → IsRefusedExtension host operations contents text (k.File refusal)
      → IsExtensionRefusal host operations contents refusal
  extension_file host (f.Specification shown) (inl (inl bad)) = inl bad
  extension_file host (f.Specification shown) (inl (inr bad)) = inr (inl bad)
  extension_file host (f.Specification shown) (inr is) = inr (inr (record {
    value = is.value;
    stands = is.stands;
    refusal = is.refusal;
    reason = is.reason.0;
    meets = extension_kinds is.refusal is.meets;
    shows = is.shows;
  }))
  extension_file host (f.WrongHost name) is = is
  extension_file host (f.Certification shown) is = record {
    value = is.value;
    stands = is.stands;
    refusal = is.refusal;
    reason = is.reason.0;
    meets = λ kinds. is.meets (of_extension_kinds is.refusal kinds);
    shows = is.shows;
  }
  extension_file host (f.NoMemory error) is = tt
