-- Two reports that begin with the checks of a host, or of a text, have one status, and one text where the host passes them.
use Rattle.std.proofs.Common.{◌≡◌, ◌≢◌, ◌<◌, ◌≤◌, inl, inr, ℕ, List, Some, length, arith, ap, sym, ◌∙◌, subst}
use Rattle.wb_certify_files.proofs.OneHostAnswer.{one_answer as one_host, one_well_defined as one_defined}
use Rattle.wb_certify_files.specs.HostContents.{IsHostText, IsHostRefusal}
use Rattle.wb_certify_files.specs.WellDefined.{IsWellDefinedText, IsWellDefinedTextRefusal}
use Rattle.wb_certify_files.specs.declared.host_refusal.HostRefusal.{HostRefusal}
use Rattle.wb_certify_files.specs.declared.host_refusal.HostRefusal.TheVariants as h
use Rattle.wb_operations.specs.Operations.{OperationSignature}
use Rattle.wb_report.specs.declared.refusal.Refusal.{Refusal}
use Rattle.wb_syntax_resolved.specs.declared.resolved.ResolvedParts.{ResolvedParts}
use Rattle.wb_world.specs.Shelf.{Files}
use Rattle.wb_program_files.specs.Checks.{Report, Check}
use Rattle.wb_program_files.specs.HostChecks.{HostChecks, CertifiedChecks, WellDefinedChecks}
use Rattle.wb_program_files.specs.Files.{FileIs}
use Rattle.wb_program_files.specs.Texts.{IsText, IsTooLongText}
use Rattle.wb_program_files.specs.declared.status.Status.{Status}
use Rattle.wb_program_files.specs.declared.status.Status.TheVariants.{SpecRefused, NotCertified, TextTooLong}
use Rattle.wb_program_files.proofs.OneCheck.{AreOne, on_file, one_check}

-- two reports: one status, and one text unless they refuse a host
abbrev pub AreAlike : Status → Status → List ℕ → List ℕ → Type 0
AreAlike s t bytes others = (s ≡ t) × (s ≢ SpecRefused → s ≢ NotCertified → bytes ≡ others)

-- one report is alike
pub are_alike : (s t : Status) (bytes others : List ℕ) → AreOne s t bytes others → AreAlike s t bytes others
are_alike s t bytes others one = (one.0, λ differs other. one.1)

-- contents are one host at most, and none where they are refused; and a refusal is of one sort
pub record IsOneHost (IsHost : List ℕ → ResolvedParts → Type 0) (IsRefused : List ℕ → HostRefusal → Type 0) (contents : List ℕ)
    : Type 0 where
  pub one : (r s : ResolvedParts) → IsHost contents r → IsHost contents s → r ≡ s
  pub no_specification : (r : ResolvedParts) (shown : Refusal) → IsHost contents r → ¬ IsRefused contents (h.Specification shown)
  pub no_certification : (r : ResolvedParts) (shown : Refusal) → IsHost contents r → ¬ IsRefused contents (h.Certification shown)
  pub one_sort : (shown other : Refusal) → IsRefused contents (h.Specification shown) → ¬ IsRefused contents (h.Certification other)

-- so it is with certified hosts
one_certified : (operations : List OperationSignature) (contents : List ℕ)
    → IsOneHost (IsHostText operations) (IsHostRefusal operations) contents
one_certified operations contents =
    let law = one_host operations contents in
    record {
      one = law.one;
      no_specification = law.no_specification;
      no_certification = law.no_certification;
      one_sort = law.one_sort;
    }

-- and with those whose attributes are well defined
one_well_defined : (operations : List OperationSignature) (contents : List ℕ)
    → IsOneHost (IsWellDefinedText operations) (IsWellDefinedTextRefusal operations) contents
one_well_defined operations contents =
    let law = one_defined operations contents in
    record {
      one = law.one;
      no_specification = law.no_specification;
      no_certification = law.no_certification;
      one_sort = law.one_sort;
    }

module _ (IsHost : List ℕ → ResolvedParts → Type 0) (IsRefused : List ℕ → HostRefusal → Type 0)
    (law : (contents : List ℕ) → IsOneHost IsHost IsRefused contents) (files : Files) (file : List ℕ) (s t : Status) (bytes others : List ℕ)
    (rest : ResolvedParts → Report)
    (goes_on : (r : ResolvedParts) → FileIs (files file) (λ contents. IsHost contents r) → rest r s bytes → rest r t others
    → AreAlike s t bytes others) where
  -- the file is a host of this value
  abbrev Is : ResolvedParts → List ℕ → Type 0
  Is r contents = IsHost contents r

  -- the contents are refused by a rule of specifications, or of certification
  abbrev Specified : Refusal → List ℕ → Type 0
  Specified shown contents = IsRefused contents (h.Specification shown)

  abbrev Refused : Refusal → List ℕ → Type 0
  Refused shown contents = IsRefused contents (h.Certification shown)

  -- two reports by the checks of a host
  pub one_host_report : HostChecks IsHost IsRefused (Some files) file rest s bytes
      → HostChecks IsHost IsRefused (Some files) file rest t others → AreAlike s t bytes others
  one_host_report (inl (ends, x)) (inl (ends', y)) = (ends ∙ sym ends', λ differs other. absurd (differs ends))
  one_host_report (inl (ends, x)) (inr (inl (ends', y))) = absurd (on_file (files file) (Specified x.shown) (Refused y.shown) ⊥
      (λ contents p q. (law contents).one_sort x.shown y.shown p q) x.cause y.cause)
  one_host_report (inl (ends, x)) (inr (inr (r, is, more))) = absurd (on_file (files file) (Specified x.shown) (Is r) ⊥
      (λ contents p q. (law contents).no_specification r x.shown q p) x.cause is)
  one_host_report (inr (inl (ends, x))) (inl (ends', y)) = absurd (on_file (files file) (Refused x.shown) (Specified y.shown) ⊥
      (λ contents p q. (law contents).one_sort y.shown x.shown q p) x.cause y.cause)
  one_host_report (inr (inl (ends, x))) (inr (inl (ends', y))) = (ends ∙ sym ends', λ other differs. absurd (differs ends))
  one_host_report (inr (inl (ends, x))) (inr (inr (r, is, more))) = absurd (on_file (files file) (Refused x.shown) (Is r) ⊥
      (λ contents p q. (law contents).no_certification r x.shown q p) x.cause is)
  one_host_report (inr (inr (r, is, more))) (inl (ends', y)) = absurd (on_file (files file) (Is r) (Specified y.shown) ⊥
      (λ contents p q. (law contents).no_specification r y.shown p q) is y.cause)
  one_host_report (inr (inr (r, is, more))) (inr (inl (ends', y))) = absurd (on_file (files file) (Is r) (Refused y.shown) ⊥
      (λ contents p q. (law contents).no_certification r y.shown p q) is y.cause)
  one_host_report (inr (inr (r, is, more))) (inr (inr (q, is', more'))) =
      let same : q ≡ r = on_file (files file) (Is q) (Is r) (q ≡ r) (λ contents p p'. (law contents).one q r p p') is' is in
      goes_on r is more (subst (λ (z : ResolvedParts). rest z t others) same more')

-- two reports by the checks of a certified host
pub one_certified_report : (operations : List OperationSignature) (files : Files) (file : List ℕ) (s t : Status) (bytes others : List ℕ)
    (rest : ResolvedParts → Report)
    → ((r : ResolvedParts) → FileIs (files file) (λ contents. IsHostText operations contents r) → rest r s bytes → rest r t others
    → AreAlike s t bytes others)
    → CertifiedChecks operations (Some files) file rest s bytes → CertifiedChecks operations (Some files) file rest t others
    → AreAlike s t bytes others
one_certified_report operations = one_host_report (IsHostText operations) (IsHostRefusal operations) (one_certified operations)

-- and by those of one whose attributes are well defined
pub one_well_defined_report : (operations : List OperationSignature) (files : Files) (file : List ℕ) (s t : Status)
    (bytes others : List ℕ) (rest : ResolvedParts → Report)
    → ((r : ResolvedParts) → FileIs (files file) (λ contents. IsWellDefinedText operations contents r) → rest r s bytes → rest r t others
    → AreAlike s t bytes others)
    → WellDefinedChecks operations (Some files) file rest s bytes → WellDefinedChecks operations (Some files) file rest t others
    → AreAlike s t bytes others
one_well_defined_report operations =
    one_host_report (IsWellDefinedText operations) (IsWellDefinedTextRefusal operations) (one_well_defined operations)

-- a text that isn't too long is none that is
not_both : (text contents : List ℕ) → 1048576 < length contents → contents ≡ text → length text ≤ 1048576 → ⊥
not_both text contents long same short = let lengths = ap length same in omega (arith, lengths)

-- two reports of a text that isn't too long, with one rest
pub one_short_report : (files : Files) (file : List ℕ) (s u : Status) (bytes others : List ℕ) (rest : List ℕ → Report)
    → ((text : List ℕ) → rest text s bytes → rest text u others → AreOne s u bytes others)
    → Check TextTooLong (IsTooLongText (Some files) file) (IsText (Some files) file) rest s bytes
    → Check TextTooLong (IsTooLongText (Some files) file) (IsText (Some files) file) rest u others → AreOne s u bytes others
one_short_report files file s u bytes others rest goes_on =
    one_check TextTooLong s u bytes others (IsTooLongText (Some files) file) (IsText (Some files) file) rest
    (λ line text x y. on_file (files file) (λ contents. 1048576 < length contents) (λ contents. contents ≡ text) ⊥
    (λ contents long same. not_both text contents long same y.1) x.long y.0)
    (λ x y. x.line ∙ sym y.line)
    (λ text other x y. on_file (files file) (λ contents. contents ≡ text) (λ contents. contents ≡ other) (text ≡ other)
    (λ contents p q. sym p ∙ q) x.0 y.0)
    (λ text passes. goes_on text)
