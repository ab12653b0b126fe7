-- Two refusals of a host and its extensions have one code.
use Rattle.std.proofs.Common.{◌≡◌, ◌⊎◌, ◌∙◌, ◌++◌, ◌∷◌, [], ℕ, List, Some, inl, inr, subst, sym}
use Rattle.wb_certify_files.proofs.OneHostAnswer.{one_answer as one_host}
use Rattle.wb_certify_files.specs.ExtensionContents.{IsExtensionRefusal, IsExtensionText}
use Rattle.wb_certify_files.specs.HostContents.{IsHostRefusal, IsHostText}
use Rattle.wb_certify_files.specs.Specifications.{IsHeaderRefusal}
use Rattle.wb_certify_files.specs.declared.extension_refusal.FileRefusal.TheVariants as f
use Rattle.wb_certify_files.specs.declared.host_refusal.HostRefusal.TheVariants as h
use Rattle.wb_operations.specs.Operations.{OperationSignature}
use Rattle.wb_report.specs.declared.refusal.Refusal.{Refusal}
use Rattle.wb_syntax_resolved.specs.declared.resolved.ResolvedParts.{ResolvedParts}
use Rattle.wb_world.specs.Shelf.{Files}
use Rattle.wb_program.specs.Excludes.{ExcludesExtensions, ExcludesHeaders}
use Rattle.wb_program.proofs.OneCheck.{on_file}
use Rattle.wb_program.specs.Checks.{Report}
use Rattle.wb_program.specs.Files.{FileIs}
use Rattle.wb_program.specs.HostChecks.{CertifiedChecks}
use Rattle.wb_program.specs.SeveralChecks.{EachChecks, IsLaterRefusal, IsNextText, RefusesEach, RefusesNext, SeveralChecks}
use Rattle.wb_program.specs.status.Status.{Status}
use Rattle.wb_program.specs.status.Status.TheVariants.{Done, DuplicateExtension, NotCertified, SpecRefused, TooManyExtensions, WrongHost}
use Rattle.wb_program.specs.Commands.Certify.{CertifyReport, ExtensionsReport}
use Rattle.wb_program_theory.specs.Codes.{IsCodeStatus, ShowOneCode}
use Rattle.wb_program_theory.proofs.AlikeLemmas.{IsTold, told_alike}
use Rattle.wb_program_theory.proofs.ExtensionCodes.{extension_alike}
use Rattle.wb_program_theory.proofs.ExtensionCodes as extension
use Rattle.wb_program_theory.proofs.FileLemmas.{file_is}
use Rattle.wb_program_theory.proofs.HostCodes.{host_alike}
use Rattle.wb_program_theory.proofs.HostCodes as host
use Rattle.wb_program_theory.proofs.MarkerCodes.{RefusalsExclude}

-- the status of a refused specification, or of one that isn't certified
abbrev pub Coding : Status → Type 0
Coding SpecRefused = Unit {0}
Coding NotCertified = Unit {0}
Coding other = ⊥

-- a report with such a status ends with none but these
pub coding : (s ending : Status) → IsCodeStatus s → s ≡ ending → Coding ending
coding s ending (inl same) ends = subst Coding (sym same ∙ ends) tt
coding s ending (inr same) ends = subst Coding (sym same ∙ ends) tt

module _ (extensions : ExcludesExtensions) (headers : ExcludesHeaders) (marks : RefusalsExclude) (operations : List OperationSignature)
    (files : Files) where
  -- this is true of the contents of a file that isn't a certified host
  abbrev pub IsHostFault : List ℕ → Refusal → Type 0
  IsHostFault contents shown =
      IsHostRefusal operations contents (h.Specification shown) ⊎ IsHostRefusal operations contents (h.Certification shown)

  host_fault : (contents : List ℕ) (shown : Refusal) → IsHostFault contents shown → host.IsHostShown operations contents shown
  host_fault contents shown (inl p) = host.specification_shown operations contents shown p
  host_fault contents shown (inr p) = host.certification_shown operations contents shown p

  -- and this of one that isn't a certified extension
  abbrev pub IsExtensionFault : ResolvedParts → List ℕ → Refusal → Type 0
  IsExtensionFault r contents shown =
      IsExtensionRefusal r operations contents (f.Specification shown) ⊎ IsExtensionRefusal r operations contents (f.Certification shown)

  extension_fault : (r : ResolvedParts) (contents : List ℕ) (shown : Refusal) → IsExtensionFault r contents shown
      → extension.IsExtensionShown r marks operations contents shown
  extension_fault r contents shown (inl p) = extension.specification_shown r marks operations contents shown p
  extension_fault r contents shown (inr p) = extension.certification_shown r marks operations contents shown p

  -- the file is a certified extension of the host
  abbrev IsCertifiedFile : ResolvedParts → List ℕ → Type 0
  IsCertifiedFile r file = (value : ResolvedParts) × FileIs (files file) (λ contents. IsExtensionText r operations contents value)

  -- of extensions in their order one is refused, and those before it are certified
  abbrev pub RefusesOne : ResolvedParts → List (List ℕ) → List ℕ → Type 0
  RefusesOne r [] bytes = ⊥
  RefusesOne r (file ∷ left) bytes =
      IsTold (IsExtensionFault r) files file bytes ⊎ (IsCertifiedFile r file × RefusesOne r left bytes)

  -- the host is refused, or it is certified and one of its extensions is
  abbrev pub RefusesFile : List ℕ → List (List ℕ) → List ℕ → Type 0
  RefusesFile file left bytes =
      IsTold IsHostFault files file bytes
      ⊎ ((r : ResolvedParts) × FileIs (files file) (λ contents. IsHostText operations contents r) × RefusesOne r left bytes)

  -- no certified file is refused
  no_extension : (r : ResolvedParts) (file : List ℕ) (bytes : List ℕ) (value : ResolvedParts) → IsTold (IsExtensionFault r) files file bytes
      → FileIs (files file) (λ contents. IsExtensionText r operations contents value) → ⊥
  no_extension r file bytes value told is =
      on_file (files file) (λ contents. IsExtensionFault r contents told.shown) (λ contents. IsExtensionText r operations contents value) ⊥
      (λ contents fault text. elim fault [
        | inl p ↦ (extensions r operations contents).certified value text (f.Specification told.shown) p
        | inr p ↦ (extensions r operations contents).certified value text (f.Certification told.shown) p
      ]) told.cause is

  no_host : (file bytes : List ℕ) (r : ResolvedParts) → IsTold IsHostFault files file bytes
      → FileIs (files file) (λ contents. IsHostText operations contents r) → ⊥
  no_host file bytes r told is =
      on_file (files file) (λ contents. IsHostFault contents told.shown) (λ contents. IsHostText operations contents r) ⊥
      (λ contents fault text. elim fault [
        | inl p ↦ (one_host operations contents).no_specification r told.shown text p
        | inr p ↦ (one_host operations contents).no_certification r told.shown text p
      ]) told.cause is

  -- two refusals of extensions
  one_code : (r : ResolvedParts) (left : List (List ℕ)) (bytes others : List ℕ) → RefusesOne r left bytes → RefusesOne r left others
      → ShowOneCode bytes others
  one_code r [] bytes others first second = absurd first
  one_code r (file ∷ left) bytes others (inl x) (inl y) =
      told_alike (IsExtensionFault r) (λ contents u v p q. extension_alike r marks operations contents u v
      (extension_fault r contents u p) (extension_fault r contents v q)) files file bytes others x y
  one_code r (file ∷ left) bytes others (inl x) (inr ((value, is), later)) = absurd (no_extension r file bytes value x is)
  one_code r (file ∷ left) bytes others (inr ((value, is), later)) (inl y) = absurd (no_extension r file others value y is)
  one_code r (file ∷ left) bytes others (inr (is, later)) (inr (is', later')) = one_code r left bytes others later later'

  -- two refusals of a host and its extensions
  pub one_file_code : (file : List ℕ) (left : List (List ℕ)) (bytes others : List ℕ) → RefusesFile file left bytes
      → RefusesFile file left others → ShowOneCode bytes others
  one_file_code file left bytes others (inl x) (inl y) =
      told_alike IsHostFault (λ contents u v p q. host_alike operations contents u v (host_fault contents u p) (host_fault contents v q))
      files file bytes others x y
  one_file_code file left bytes others (inl x) (inr (r, is, later)) = absurd (no_host file bytes r x is)
  one_file_code file left bytes others (inr (r, is, later)) (inl y) = absurd (no_host file others r y is)
  one_file_code file left bytes others (inr (r, is, later)) (inr (q, is', later')) =
      let same : q ≡ r = on_file (files file) (λ contents. IsHostText operations contents q)
      (λ contents. IsHostText operations contents r) (q ≡ r) (λ contents u v. (one_host operations contents).one q r u v) is' is in
      one_code r left bytes others later (subst (λ (z : ResolvedParts). RefusesOne z left others) same later')

  module _ (s : Status) (bytes : List ℕ) (code : IsCodeStatus s) where
    -- an extension after others that is refused with such a status
    next_refused : (r : ResolvedParts) (before : List ResolvedParts) (file : List ℕ)
        → RefusesNext operations (Some files) r before file s bytes → IsTold (IsExtensionFault r) files file bytes
    next_refused r before file (inl (ends, x)) = record {
      shown = x.shown;
      cause = file_is (files file) (λ contents. IsHeaderRefusal r contents (f.Specification x.shown))
          (λ contents. IsExtensionFault r contents x.shown)
          (λ contents p. inl ((headers r contents).refused operations (f.Specification x.shown) p)) x.cause;
      line = x.line;
    }
    next_refused r before file (inr (inl (ends, x))) = absurd (coding s WrongHost code ends)
    next_refused r before file (inr (inr (inl (ends, x)))) = absurd (coding s DuplicateExtension code ends)
    next_refused r before file (inr (inr (inr (inl (ends, x))))) = record {
      shown = x.shown;
      cause = file_is (files file) (λ contents. IsLaterRefusal operations r before contents (f.Specification x.shown))
          (λ contents. IsExtensionFault r contents x.shown) (λ contents p. inl p.cause) x.cause;
      line = x.line;
    }
    next_refused r before file (inr (inr (inr (inr (ends, x))))) = record {
      shown = x.shown;
      cause = file_is (files file) (λ contents. IsLaterRefusal operations r before contents (f.Certification x.shown))
          (λ contents. IsExtensionFault r contents x.shown) (λ contents p. inr p.cause) x.cause;
      line = x.line;
    }

    each_refused : (r : ResolvedParts) (left : List (List ℕ)) (before : List ResolvedParts)
        → RefusesEach operations (Some files) r left before s bytes → RefusesOne r left bytes
    each_refused r [] before refuses = absurd refuses
    each_refused r (file ∷ left) before (inl refuses) = inl (next_refused r before file refuses)
    each_refused r (file ∷ left) before (inr (value, is, later)) =
        inr (
          (
            value,
            file_is (files file) (λ contents. IsNextText operations r before contents value)
                (λ contents. IsExtensionText r operations contents value) (λ contents p. p.text) is,
          ),
          each_refused r left (before ++ value ∷ []) later,
        )

    -- a report that begins with the host
    pub host_refused : (file : List ℕ) (left : List (List ℕ)) (rest : ResolvedParts → Report)
        → ((r : ResolvedParts) → rest r s bytes → RefusesOne r left bytes) → CertifiedChecks operations (Some files) file rest s bytes
        → RefusesFile file left bytes
    host_refused file left rest goes (inl (ends, x)) = inl (record {
      shown = x.shown;
      cause = file_is (files file) (λ contents. IsHostRefusal operations contents (h.Specification x.shown))
          (λ contents. IsHostFault contents x.shown) (λ contents p. inl p) x.cause;
      line = x.line;
    })
    host_refused file left rest goes (inr (inl (ends, x))) = inl (record {
      shown = x.shown;
      cause = file_is (files file) (λ contents. IsHostRefusal operations contents (h.Certification x.shown))
          (λ contents. IsHostFault contents x.shown) (λ contents p. inr p) x.cause;
      line = x.line;
    })
    host_refused file left rest goes (inr (inr (r, is, report))) = inr (r, is, goes r report)

    -- one that goes on with extensions, and then with no such status
    pub several_refused : (file : List ℕ) (all : List (List ℕ)) (rest : ResolvedParts → List ResolvedParts → Report)
        → ((r : ResolvedParts) (values : List ResolvedParts) → rest r values s bytes → ⊥)
        → SeveralChecks operations (Some files) file all rest s bytes → RefusesFile file all bytes
    several_refused file all rest none (inl (ends, x)) = absurd (coding s TooManyExtensions code ends)
    several_refused file all rest none (inr (few, checks)) =
        host_refused file all (λ r. EachChecks operations (Some files) r all (rest r)) (λ r each. elim each [
          | inl refuses ↦ each_refused r all [] refuses
          | inr x ↦ absurd (none r x.0 x.2)
        ]) checks

    -- and one that certifies extensions
    certify_each : (r : ResolvedParts) (left names : List (List ℕ)) → ExtensionsReport operations (Some files) r left names s bytes
        → RefusesOne r left bytes
    certify_each r [] names (ends, line) = absurd (coding s Done code ends)
    certify_each r (file ∷ left) names (inl (ends, x)) = inl (record {
      shown = x.shown;
      cause = file_is (files file) (λ contents. IsExtensionRefusal r operations contents (f.Specification x.shown))
          (λ contents. IsExtensionFault r contents x.shown) (λ contents p. inl p) x.cause;
      line = x.line;
    })
    certify_each r (file ∷ left) names (inr (inl (ends, x))) = absurd (coding s WrongHost code ends)
    certify_each r (file ∷ left) names (inr (inr (inl (ends, x)))) = inl (record {
      shown = x.shown;
      cause = file_is (files file) (λ contents. IsExtensionRefusal r operations contents (f.Certification x.shown))
          (λ contents. IsExtensionFault r contents x.shown) (λ contents p. inr p) x.cause;
      line = x.line;
    })
    certify_each r (file ∷ left) names (inr (inr (inr (name, is, later)))) =
        inr ((is.value, is.contents), certify_each r left (names ++ name ∷ []) later)

    pub certify_refused : (file : List ℕ) (all : List (List ℕ)) → CertifyReport operations (Some files) file all s bytes
        → RefusesFile file all bytes
    certify_refused file all (inl (ends, x)) = absurd (coding s TooManyExtensions code ends)
    certify_refused file all (inr (few, checks)) =
        host_refused file all (λ r. ExtensionsReport operations (Some files) r all []) (λ r. certify_each r all []) checks
