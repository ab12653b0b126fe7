-- What is shown of an extension that isn't certified with its host by a text.
use Rattle.std.proofs.Common.{◌≡◌, ◌∷◌, [], inl, inr, ℕ, List, length, Result, Ok, Err, IfOk, IfErr, ap, subst, sym}
use Rattle.wb_recheck.specs.Extensions.{IsCertifiedBeside, IsOneExtension}
use Rattle.wb_recheck.specs.BesideRefusals.{IsMemory as IsCertifyMemory}
use Rattle.wb_certify_files.proofs.ExtensionLemmas.{header_refused}
use Rattle.wb_certify_files.proofs.ShownExtensions.{value_shown}
use Rattle.wb_certify_files.specs.ExtensionContents.{IsExtensionRefusal, IsOfKinds, IsRefusedValue, StandsFor, NamesOtherHost}
use Rattle.wb_certify_files.specs.Numbered.{IsOfNames}
use Rattle.wb_certify_files.specs.Specifications.{IsHeaderRefusal}
use Rattle.wb_certify_files.specs.declared.extension_refusal.FileRefusal.{FileRefusal}
use Rattle.wb_certify_files.specs.declared.extension_refusal.FileRefusal.TheVariants as f
use Rattle.wb_recheck.specs.certify_refusal.CertifyRefusal.{CertifyRefusal}
use Rattle.wb_recheck.specs.certify_refusal.CertifyRefusal.TheVariants as c
use Rattle.wb_certify_shown.specs.Extensions.{extension_refusal_shown}
use Rattle.wb_operations.specs.Operations.{OperationSignature}
use Rattle.wb_recheck.specs.Certificates.{IsCertificateOfExtension}
use Rattle.wb_recheck.specs.ExtensionRefusals.{IsBesideRecheckRefusal, IsNoExtensionCertificate}
use Rattle.wb_recheck.specs.HostRefusals.{IsInTime}
use Rattle.wb_recheck.specs.OneAnswer.{IsOfKinds as IsRuleOfKinds}
use Rattle.wb_recheck.specs.declared.refusal.RecheckRefusal.{RecheckRefusal}
use Rattle.wb_recheck.specs.declared.refusal.RecheckRefusal.TheVariants as r
use Rattle.wb_report.specs.declared.refusal.Refusal.{Refusal}
use Rattle.wb_syntax_resolved.specs.declared.resolved.ResolvedParts.{ResolvedParts}
use Rattle.wb_certify_files.specs.RecheckedExtensions.{IsNoExtension, IsRecheckedNamed, IsRefusedExtension}
use Rattle.wb_certify_files.specs.Inner.RecheckShown.{HasLine, IsCopyOrMemory, IsShownAs}
use Rattle.wb_certify_files.specs.RecheckRefusals.{FailsRule, IsMemory}
use Rattle.wb_certify_files.specs.declared.contents_refusal.ContentsRefusal.{ContentsRefusal}
use Rattle.wb_certify_files.specs.declared.contents_refusal.ContentsRefusal.TheVariants as k
use Rattle.wb_certify_files.proofs.RecheckShownLemmas.{Holds, shown_true}

-- out of memory doesn't come in time
not_memory : (Certified : Type 0) (rule : CertifyRefusal) → IsInTime Certified rule → ¬ IsCertifyMemory rule
not_memory Certified (c.Names x) time memory = memory
not_memory Certified (c.Types x) time memory = memory
not_memory Certified c.NoStart time memory = memory
not_memory Certified (c.Determinism x) time memory = memory
not_memory Certified (c.Attributes x) time memory = memory
not_memory Certified (c.NoMemory x) time memory = time

module _ (host : ResolvedParts) (operations : List OperationSignature) (text : List ℕ) where
  module _ (value : ResolvedParts) where
    -- each refusal by a rule has a line
    pub extension_line : (refusal : RecheckRefusal) → IsBesideRecheckRefusal host value operations text refusal
        → HasLine (extension_refusal_shown value) refusal
    extension_line (r.Certify rule) is =
        value_shown host value operations rule is.0 (not_memory (IsCertificateOfExtension value text) rule is.1)
    extension_line (r.Syntax place) is = tt
    extension_line (r.WrongLine number) is = tt
    extension_line (r.Missing kernel) is = tt
    extension_line (r.NoMemory error) is = tt

    pub extension_holds : (refusal : RecheckRefusal) → IsBesideRecheckRefusal host value operations text refusal
        → Holds (λ rule. IsBesideRecheckRefusal host value operations text (r.Certify rule))
        (IsNoExtensionCertificate value operations text) refusal
    extension_holds (r.Certify rule) is = is
    extension_holds (r.Syntax place) is = is
    extension_holds (r.WrongLine number) is = is
    extension_holds (r.Missing kernel) is = is
    extension_holds (r.NoMemory error) is = tt

    -- what is shown is true of the contents
    pub extension_shown : (contents : List ℕ) → StandsFor host contents value → (refusal : RecheckRefusal)
        → IsBesideRecheckRefusal host value operations text refusal → (handed : ContentsRefusal)
        → IsShownAs (extension_refusal_shown value) refusal handed → IsRefusedExtension host operations contents text handed
    extension_shown contents stands refusal is =
        shown_true (StandsFor host contents) (λ v rule. IsBesideRecheckRefusal host v operations text (r.Certify rule))
        (λ v. IsNoExtensionCertificate v operations text) extension_refusal_shown (IsNoExtension host contents)
        (NamesOtherHost host contents) value stands refusal (extension_holds refusal is)

  module _ (contents : List ℕ) where
    -- a rule of kinds comes before the text
    kinds_true : (shown : Refusal) → IsRefusedValue host operations contents IsOfKinds shown
        → FailsRule (StandsFor host contents) (λ v rule. IsBesideRecheckRefusal host v operations text (r.Certify rule))
        (λ v. IsNoExtensionCertificate v operations text) extension_refusal_shown IsRuleOfKinds shown
    kinds_true shown is = record {
      value = is.value;
      stands = is.stands;
      refusal = is.refusal;
      reason = (is.reason, in_time is.refusal is.meets);
      meets = of_kinds is.refusal is.meets;
      shows = is.shows;
    }
      where
        in_time : (rule : CertifyRefusal) → IsOfKinds rule → IsInTime (IsCertificateOfExtension is.value text) rule
        in_time (c.Names x) kinds = absurd kinds
        in_time (c.Types x) kinds = tt
        in_time c.NoStart kinds = absurd kinds
        in_time (c.Determinism x) kinds = absurd kinds
        in_time (c.Attributes x) kinds = absurd kinds
        in_time (c.NoMemory x) kinds = absurd kinds

        of_kinds : (rule : CertifyRefusal) → IsOfKinds rule → IsRuleOfKinds rule
        of_kinds (c.Names x) kinds = absurd kinds
        of_kinds (c.Types x) kinds = tt
        of_kinds c.NoStart kinds = absurd kinds
        of_kinds (c.Determinism x) kinds = absurd kinds
        of_kinds (c.Attributes x) kinds = absurd kinds
        of_kinds (c.NoMemory x) kinds = absurd kinds

    -- a refusal of names is true whatever the text is
    pub names_refused : (refusal : FileRefusal) → IsExtensionRefusal host operations contents refusal → IsOfNames refusal
        → IsRefusedExtension host operations contents text (k.File refusal)
    names_refused (f.Specification shown) (inl bad) names = inl (inl bad)
    names_refused (f.Specification shown) (inr (inl bad)) names = inl (inr bad)
    names_refused (f.Specification shown) (inr (inr value)) names = inr (kinds_true shown value)
    names_refused (f.WrongHost name) is names = is
    names_refused (f.Certification shown) is names = absurd names
    names_refused (f.NoMemory error) is names = tt

    -- and so is one of the first line
    header_names : (refusal : FileRefusal) → IsHeaderRefusal host contents refusal → IsOfNames refusal
    header_names (f.Specification shown) is = tt
    header_names (f.WrongHost name) is = tt
    header_names (f.Certification shown) is = is
    header_names (f.NoMemory error) is = tt

    pub first_line_refused : (refusal : FileRefusal) → IsHeaderRefusal host contents refusal
        → IsRefusedExtension host operations contents text (k.File refusal)
    first_line_refused refusal is =
        names_refused refusal (header_refused host operations contents refusal is) (header_names refusal is)

    -- the name of what is certified
    pub named_or_memory : (value : ResolvedParts) → StandsFor host contents value → IsCertifiedBeside host value operations
        → IsCertificateOfExtension value text → (name : List ℕ) → IsOneExtension value name → (result : Result (List ℕ) ContentsRefusal)
        → IsCopyOrMemory name result → IfOk result (IsRecheckedNamed host operations contents text)
    named_or_memory value stands certified certificate name named (Ok copy) same = record {
      value = value;
      is = record { stands = stands; certified = certified; certificate = certificate };
      named = subst (IsOneExtension value) (sym same) named;
    }
    named_or_memory value stands certified certificate name named (Err refusal) memory = tt

    memory_true : (refusal : ContentsRefusal) → IsMemory refusal → IsRefusedExtension host operations contents text refusal
    memory_true (k.File (f.Specification shown)) memory = absurd memory
    memory_true (k.File (f.WrongHost name)) memory = absurd memory
    memory_true (k.File (f.Certification shown)) memory = absurd memory
    memory_true (k.File (f.NoMemory error)) memory = tt
    memory_true (k.Certificate reason) memory = absurd memory

    pub name_memory : (name : List ℕ) (result : Result (List ℕ) ContentsRefusal) → IsCopyOrMemory name result
        → IfErr result (IsRefusedExtension host operations contents text)
    name_memory name (Ok copy) same = tt
    name_memory name (Err refusal) memory = memory_true refusal memory
