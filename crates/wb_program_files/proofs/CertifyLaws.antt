-- The report of `certify`: it is written whole, and known files have one status, and one text where nothing is refused.
use Rattle.std.proofs.Common.{◌≡◌, ◌++◌, inl, inr, ℕ, List, [], ◌∷◌, Option, Some, ap, sym, ◌∙◌, subst}
use Rattle.wb_certify_files.specs.Extensions.{IsOneExtension}
use Rattle.wb_certify_files.specs.ExtensionContents.{IsExtensionText, IsExtensionRefusal}
use Rattle.wb_certify_files.specs.declared.extension_refusal.FileRefusal.{FileRefusal}
use Rattle.wb_certify_files.specs.declared.extension_refusal.FileRefusal.TheVariants as f
use Rattle.wb_certify_files.specs.HostContents.{IsHostText, IsHostRefusal}
use Rattle.wb_operations.specs.Operations.{OperationSignature}
use Rattle.wb_report.specs.Lines.{report_of}
use Rattle.wb_report.specs.declared.outcome.Outcome.TheVariants as o
use Rattle.wb_report.specs.declared.refusal.Refusal.{Refusal}
use Rattle.wb_syntax_resolved.specs.declared.resolved.ResolvedParts.{ResolvedParts}
use Rattle.wb_world.specs.Shelf.{Files}
use Rattle.wb_program_files.specs.ExtensionChecks.{IsForOtherHost}
use Rattle.wb_program_files.specs.Files.{FileIs}
use Rattle.wb_program_files.specs.declared.status.Status.{Status}
use Rattle.wb_program_files.proofs.OneCheck.{on_file}
use Rattle.wb_program_files.proofs.OneHostChecks.{AreAlike, one_certified_report}
use Rattle.wb_program_files.specs.Commands.Certify.{IsExtensionNamed, ExtensionsReport, CertifyReport}
use Rattle.wb_program_files.specs.Excludes.{ExcludesExtensions}
use Rattle.wb_program_files.proofs.Excludes.{not_few}
use Rattle.wb_program_files.proofs.WrittenWhole.{IsReported, by_host}

module _ (excludes : ExcludesExtensions) (operations : List OperationSignature) (files : Files) (host : ResolvedParts) where
  -- the contents are refused so
  abbrev Refused : FileRefusal → List ℕ → Type 0
  Refused refusal contents = IsExtensionRefusal host operations contents refusal

  -- the contents are a certified extension of this value
  abbrev Certified : ResolvedParts → List ℕ → Type 0
  Certified r contents = IsExtensionText host operations contents r

  -- a file isn't refused in two ways of which one excludes the other
  not_both : (file : List ℕ) (x y : FileRefusal) → ((contents : List ℕ) → Refused x contents → Refused y contents → ⊥)
      → FileIs (files file) (Refused x) → FileIs (files file) (Refused y) → ⊥
  not_both file x y = on_file (files file) (Refused x) (Refused y) ⊥

  -- of a rule of specifications and of another host
  not_specification_host : (file : List ℕ) (shown : Refusal) (name : List ℕ) → FileIs (files file) (Refused (f.Specification shown))
      → FileIs (files file) (Refused (f.WrongHost name)) → ⊥
  not_specification_host file shown name = not_both file (f.Specification shown) (f.WrongHost name)
      (λ contents p q. (excludes host operations contents).sorts.specification_host shown name p q)

  -- of rules of both sorts
  not_specification_certification : (file : List ℕ) (shown other : Refusal) → FileIs (files file) (Refused (f.Specification shown))
      → FileIs (files file) (Refused (f.Certification other)) → ⊥
  not_specification_certification file shown other = not_both file (f.Specification shown) (f.Certification other)
      (λ contents p q. (excludes host operations contents).sorts.specification_certification shown other p q)

  -- of another host and a rule of certification
  not_host_certification : (file name : List ℕ) (shown : Refusal) → FileIs (files file) (Refused (f.WrongHost name))
      → FileIs (files file) (Refused (f.Certification shown)) → ⊥
  not_host_certification file name shown = not_both file (f.WrongHost name) (f.Certification shown)
      (λ contents p q. (excludes host operations contents).sorts.host_certification name shown p q)

  -- a certified extension isn't refused by a rule of specifications
  not_specification : (file : List ℕ) (r : ResolvedParts) (shown : Refusal) → FileIs (files file) (Certified r)
      → FileIs (files file) (Refused (f.Specification shown)) → ⊥
  not_specification file r shown = on_file (files file) (Certified r) (Refused (f.Specification shown)) ⊥
      (λ contents p q. (excludes host operations contents).certified r p (f.Specification shown) q)

  -- it isn't for another host
  not_host : (file : List ℕ) (r : ResolvedParts) (name : List ℕ) → FileIs (files file) (Certified r)
      → FileIs (files file) (Refused (f.WrongHost name)) → ⊥
  not_host file r name = on_file (files file) (Certified r) (Refused (f.WrongHost name)) ⊥
      (λ contents p q. (excludes host operations contents).certified r p (f.WrongHost name) q)

  -- and it isn't refused by a rule of certification
  not_certification : (file : List ℕ) (r : ResolvedParts) (shown : Refusal) → FileIs (files file) (Certified r)
      → FileIs (files file) (Refused (f.Certification shown)) → ⊥
  not_certification file r shown = on_file (files file) (Certified r) (Refused (f.Certification shown)) ⊥
      (λ contents p q. (excludes host operations contents).certified r p (f.Certification shown) q)

  -- two lines of an extension of another host are one
  one_other : (file bytes others : List ℕ) → IsForOtherHost operations (Some files) host file bytes
      → IsForOtherHost operations (Some files) host file others → bytes ≡ others
  one_other file bytes others x y =
      let same : x.name ≡ y.name = on_file (files file) (Refused (f.WrongHost x.name)) (Refused (f.WrongHost y.name)) (x.name ≡ y.name)
      (λ contents p q. (excludes host operations contents).sorts.one_host x.name y.name p q) x.cause y.cause in
      x.line ∙ (ap (λ (name : List ℕ). report_of (o.WrongHost file name)) same ∙ sym y.line)

  -- two names in one list of one are one
  one_in_list : (x y : List ℕ) (names : List (List ℕ)) → names ≡ x ∷ [] → names ≡ y ∷ [] → x ≡ y
  one_in_list x y names p q = cc

  -- a file is a certified extension of one name
  one_name : (file x y : List ℕ) → IsExtensionNamed operations (Some files) host file x
      → IsExtensionNamed operations (Some files) host file y → x ≡ y
  one_name file x y first second =
      let same : second.value ≡ first.value = on_file (files file) (Certified second.value) (Certified first.value)
      (second.value ≡ first.value)
      (λ contents p q. (excludes host operations contents).one second.value first.value p q) second.contents first.contents in
      one_in_list x y first.value.attributes.extensions first.named
      (subst (λ (r : ResolvedParts). IsOneExtension r y) same second.named)

  -- two reports of extensions
  one_extensions_report : (left names : List (List ℕ)) (s t : Status) (bytes others : List ℕ)
      → ExtensionsReport operations (Some files) host left names s bytes
      → ExtensionsReport operations (Some files) host left names t others → AreAlike s t bytes others
  one_extensions_report [] names s t bytes others (ends, line) (ends', line') = (ends ∙ sym ends', λ differs other. line ∙ sym line')
  one_extensions_report (file ∷ left) names s t bytes others (inl (ends, x)) (inl (ends', y)) =
      (ends ∙ sym ends', λ differs other. absurd (differs ends))
  one_extensions_report (file ∷ left) names s t bytes others (inl (ends, x)) (inr (inl (ends', y))) =
      absurd (not_specification_host file x.shown y.name x.cause y.cause)
  one_extensions_report (file ∷ left) names s t bytes others (inl (ends, x)) (inr (inr (inl (ends', y)))) =
      absurd (not_specification_certification file x.shown y.shown x.cause y.cause)
  one_extensions_report (file ∷ left) names s t bytes others (inl (ends, x)) (inr (inr (inr (name, is, more)))) =
      absurd (not_specification file is.value x.shown is.contents x.cause)
  one_extensions_report (file ∷ left) names s t bytes others (inr (inl (ends, x))) (inl (ends', y)) =
      absurd (not_specification_host file y.shown x.name y.cause x.cause)
  one_extensions_report (file ∷ left) names s t bytes others (inr (inl (ends, x))) (inr (inl (ends', y))) =
      (ends ∙ sym ends', λ differs other. one_other file bytes others x y)
  one_extensions_report (file ∷ left) names s t bytes others (inr (inl (ends, x))) (inr (inr (inl (ends', y)))) =
      absurd (not_host_certification file x.name y.shown x.cause y.cause)
  one_extensions_report (file ∷ left) names s t bytes others (inr (inl (ends, x))) (inr (inr (inr (name, is, more)))) =
      absurd (not_host file is.value x.name is.contents x.cause)
  one_extensions_report (file ∷ left) names s t bytes others (inr (inr (inl (ends, x)))) (inl (ends', y)) =
      absurd (not_specification_certification file y.shown x.shown y.cause x.cause)
  one_extensions_report (file ∷ left) names s t bytes others (inr (inr (inl (ends, x)))) (inr (inl (ends', y))) =
      absurd (not_host_certification file y.name x.shown y.cause x.cause)
  one_extensions_report (file ∷ left) names s t bytes others (inr (inr (inl (ends, x)))) (inr (inr (inl (ends', y)))) =
      (ends ∙ sym ends', λ other differs. absurd (differs ends))
  one_extensions_report (file ∷ left) names s t bytes others (inr (inr (inl (ends, x)))) (inr (inr (inr (name, is, more)))) =
      absurd (not_certification file is.value x.shown is.contents x.cause)
  one_extensions_report (file ∷ left) names s t bytes others (inr (inr (inr (name, is, more)))) (inl (ends', y)) =
      absurd (not_specification file is.value y.shown is.contents y.cause)
  one_extensions_report (file ∷ left) names s t bytes others (inr (inr (inr (name, is, more)))) (inr (inl (ends', y))) =
      absurd (not_host file is.value y.name is.contents y.cause)
  one_extensions_report (file ∷ left) names s t bytes others (inr (inr (inr (name, is, more)))) (inr (inr (inl (ends', y)))) =
      absurd (not_certification file is.value y.shown is.contents y.cause)
  one_extensions_report (file ∷ left) names s t bytes others (inr (inr (inr (name, is, more)))) (inr (inr (inr (other, is', more')))) =
      let same : other ≡ name = one_name file other name is' is in
      one_extensions_report left (names ++ name ∷ []) s t bytes others more
      (subst (λ (n : List ℕ). ExtensionsReport operations (Some files) host left (names ++ n ∷ []) t others) same more')

-- two reports of `certify`
pub one_certify_report : ExcludesExtensions → (operations : List OperationSignature) (files : Files) (host : List ℕ)
    (extensions : List (List ℕ)) (s t : Status) (bytes others : List ℕ) → CertifyReport operations (Some files) host extensions s bytes
    → CertifyReport operations (Some files) host extensions t others → AreAlike s t bytes others
one_certify_report excludes operations files host extensions s t bytes others (inl (ends, x)) (inl (ends', y)) =
    (ends ∙ sym ends', λ differs other. x.line ∙ sym y.line)
one_certify_report excludes operations files host extensions s t bytes others (inl (ends, x)) (inr (few, y)) =
    absurd (not_few extensions x.many few)
one_certify_report excludes operations files host extensions s t bytes others (inr (few, x)) (inl (ends', y)) =
    absurd (not_few extensions y.many few)
one_certify_report excludes operations files host extensions s t bytes others (inr (few, x)) (inr (few', y)) =
    one_certified_report operations files host s t bytes others (λ r. ExtensionsReport operations (Some files) r extensions [])
    (λ r is. one_extensions_report excludes operations files r extensions [] s t bytes others) x y

-- a report of extensions
extensions_reported : (operations : List OperationSignature) (known : Option Files) (host : ResolvedParts) (files names : List (List ℕ))
    (s : Status) (bytes : List ℕ) → ExtensionsReport operations known host files names s bytes → IsReported s
extensions_reported operations known host [] names s bytes (same, line) = subst IsReported (sym same) tt
extensions_reported operations known host (file ∷ files) names s bytes (inl (same, line)) = subst IsReported (sym same) tt
extensions_reported operations known host (file ∷ files) names s bytes (inr (inl (same, line))) = subst IsReported (sym same) tt
extensions_reported operations known host (file ∷ files) names s bytes (inr (inr (inl (same, line)))) =
    subst IsReported (sym same) tt
extensions_reported operations known host (file ∷ files) names s bytes (inr (inr (inr (name, is, more)))) =
    extensions_reported operations known host files (names ++ name ∷ []) s bytes more

-- a report of `certify`
pub certify_reported : (operations : List OperationSignature) (known : Option Files) (host : List ℕ) (extensions : List (List ℕ))
    (s : Status) (bytes : List ℕ) → CertifyReport operations known host extensions s bytes → IsReported s
certify_reported operations known host extensions s bytes (inl (same, line)) = subst IsReported (sym same) tt
certify_reported operations known host extensions s bytes (inr (few, report)) =
    by_host (IsHostText operations) (IsHostRefusal operations) known host (λ r. ExtensionsReport operations known r extensions []) s bytes
    (λ r. extensions_reported operations known r extensions [] s bytes) report
