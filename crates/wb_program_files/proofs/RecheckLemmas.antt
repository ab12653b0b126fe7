-- What is made of the files that `recheck` reads is its report, and a run that stops at one of them has its cause.
use Rattle.std.proofs.Common.{String, Global, string_bytes, get_or, ◌≡◌, ◌<◌, ◌≤◌, ◌⊎◌, inl, inr, ℕ, List, [], ◌∷◌, Option, Some, None}
use Rattle.std.proofs.Common.{length, drop, arith, refl, subst, sym, ap, ◌∙◌}
use Rattle.wb_certify_files.specs.declared.extension_refusal.FileRefusal.TheVariants as f
use Rattle.wb_operations.specs.Operations.{OperationSignature}
use Rattle.wb_program_words.specs.Asked.{texts}
use Rattle.wb_reader.specs.declared.refusal.SpecRefusal.TheVariants as s
use Rattle.wb_certify_files.specs.RecheckedExtensions.{IsRecheckedNamed, IsRefusedExtension}
use Rattle.wb_certify_files.specs.RecheckedHosts.{IsRecheckedHost, IsRefusedHost}
use Rattle.wb_certify_files.specs.declared.contents_refusal.ContentsRefusal.TheVariants as k
use Rattle.wb_report.specs.declared.refusal.Refusal.TheVariants as r
use Rattle.wb_report.specs.declared.spec_reason.SpecReason.TheVariants as t
use Rattle.wb_syntax_resolved.specs.declared.resolved.ResolvedParts.{ResolvedParts}
use Rattle.wb_world.specs.Shelf.{Files}
use Rattle.wb_program_files.specs.CertificateChecks.{HasTooLongCertificate, IsPair, IsRefusedBy}
use Rattle.wb_program_files.specs.Commands.Recheck.{ExtensionReport, RecheckReport, RecheckedLines, extension_reads, rechecked_reads}
use Rattle.wb_program_files.specs.Inner.Pairs.{IsFound}
use Rattle.wb_program_files.specs.Stops.{StopsAt}
use Rattle.wb_program_files.specs.declared.answer.Answer.{Answer}
use Rattle.wb_program_files.specs.declared.status.Status.{Status}
use Rattle.wb_program_files.proofs.PairLemmas.{ended_pair}
use Rattle.wb_program_files.proofs.WordLemmas.{few_texts, texts_from}

-- a file that is too long is refused for that
pub too_long_host : (operations : List OperationSignature) (contents text : List ℕ) → 1048576 < length contents
    → IsRefusedHost operations contents text (k.File (f.Specification (r.Specification t.TooLong)))
too_long_host operations contents text long = inl (inl (record { refusal = s.TooLong; cause = long; shows = refl }))

pub too_long_extension : (host : ResolvedParts) (operations : List OperationSignature) (contents text : List ℕ) → 1048576 < length contents
    → IsRefusedExtension host operations contents text (k.File (f.Specification (r.Specification t.TooLong)))
too_long_extension host operations contents text long = inl (inl (record { refusal = s.TooLong; cause = long; shows = refl }))

module _ (operations : List OperationSignature) where
  -- where no extension is named, the report is that of the host
  pub alone : (known : Option Files) (host : ResolvedParts) (extension : List (List ℕ)) (status : Status) (bytes : List ℕ)
      → length extension < 2 → RecheckedLines host.host None status bytes → ExtensionReport operations known host extension status bytes
  alone known host [] status bytes few lines = lines
  alone known host (file ∷ []) status bytes few lines = lines
  alone known host (file ∷ certificate ∷ others) status bytes few lines = absurd (omega (arith, few))

  module _ (known : Option Files) (host : ResolvedParts) (file certificate : List ℕ) (others extension : List (List ℕ))
      (is : extension ≡ file ∷ certificate ∷ others) where
    -- where one is named and certified, the report is that of both
    pub both : (name : List ℕ) (status : Status) (bytes : List ℕ)
        → IsPair known file certificate (λ contents text. IsRecheckedNamed host operations contents text name)
        → RecheckedLines host.host (Some name) status bytes → ExtensionReport operations known host extension status bytes
    both name status bytes certified lines =
        subst (λ (z : List (List ℕ)). ExtensionReport operations known host z status bytes) (sym is) (inr (inr (name, certified, lines)))

    -- and where it isn't, that of its refusal
    pub refused : (answer : Answer) → HasTooLongCertificate known file certificate answer.status answer.report.items
        ⊎ IsRefusedBy known file certificate (IsRefusedExtension host operations) answer.status answer.report.items
        → ExtensionReport operations known host extension answer.status answer.report.items
    refused answer ends =
        subst (λ (z : List (List ℕ)). ExtensionReport operations known host z answer.status answer.report.items) (sym is)
        (ended_pair (IsRecheckedNamed host operations) (IsRefusedExtension host operations) known file certificate
        (λ (name : List ℕ). RecheckedLines host.host (Some name)) answer.status answer.report.items ends)

    -- a run that stops at one of the two
    pub stops_rest : (P : List ℕ → Type 0) → P file ⊎ P certificate → StopsAt operations known P (extension_reads extension)
    stops_rest P (inl at_file) =
        subst (λ (z : List (List ℕ)). StopsAt operations known P (extension_reads z)) (sym is) (inl at_file)
    stops_rest P (inr at_certificate) =
        subst (λ (z : List (List ℕ)). StopsAt operations known P (extension_reads z)) (sym is) (inr (tt, inl at_certificate))

  -- a run that stops at the files of an extension stops at them since it began
  rest_since : (known later : Option Files) (P Q : List ℕ → Type 0) → ((file : List ℕ) → P file → Q file) → (extension : List (List ℕ))
      → StopsAt operations later P (extension_reads extension) → StopsAt operations known Q (extension_reads extension)
  rest_since known later P Q weaker [] stops = absurd stops
  rest_since known later P Q weaker (file ∷ []) stops = absurd stops
  rest_since known later P Q weaker (file ∷ certificate ∷ others) (inl at_file) = inl (weaker file at_file)
  rest_since known later P Q weaker (file ∷ certificate ∷ others) (inr (passes, inl at_certificate)) =
      inr (tt, inl (weaker certificate at_certificate))
  rest_since known later P Q weaker (file ∷ certificate ∷ others) (inr (passes, inr (passes', none))) = absurd none

  module _ (known : Option Files) (host certificate : List ℕ) (extension : List (List ℕ)) where
    -- a host that is certified by its certificate has the report of the rest
    pub host_done : (r : ResolvedParts) (status : Status) (bytes : List ℕ)
        → IsPair known host certificate (λ contents text. IsRecheckedHost operations contents text r)
        → ExtensionReport operations known r extension status bytes
        → RecheckReport operations known host certificate extension status bytes
    host_done r status bytes is report = inr (inr (r, is, report))

    -- and one that isn't has that of its refusal
    pub host_ended : (answer : Answer) → HasTooLongCertificate known host certificate answer.status answer.report.items
        ⊎ IsRefusedBy known host certificate (IsRefusedHost operations) answer.status answer.report.items
        → RecheckReport operations known host certificate extension answer.status answer.report.items
    host_ended answer ends =
        ended_pair (IsRecheckedHost operations) (IsRefusedHost operations) known host certificate
        (λ (r : ResolvedParts). ExtensionReport operations known r extension) answer.status answer.report.items ends

    -- a run that stops at the host or at its certificate
    pub stops_host : (P : List ℕ → Type 0) → P host ⊎ P certificate
        → StopsAt operations known P (rechecked_reads host certificate extension)
    stops_host P (inl at_host) = inl at_host
    stops_host P (inr at_certificate) = inr (tt, inl at_certificate)

    -- and one that stops later
    pub stops_later : (later : Option Files) (r : ResolvedParts) (P Q : List ℕ → Type 0) → ((file : List ℕ) → P file → Q file)
        → IsPair known host certificate (λ contents text. IsRecheckedHost operations contents text r)
        → StopsAt operations later P (extension_reads extension)
        → StopsAt operations known Q (rechecked_reads host certificate extension)
    stops_later later r P Q weaker is stops = inr (tt, inr ((r, is), rest_since known later P Q weaker extension stops))

-- two words of a list
pub two_texts : (words : List (String Global)) (first second : String Global) (file certificate : List ℕ) → 2 ≤ length words
    → first ≡ get_or words 0 first → second ≡ get_or words 1 second → file ≡ string_bytes first → certificate ≡ string_bytes second
    → texts words ≡ file ∷ certificate ∷ drop 2 (texts words)
two_texts words first second file certificate two is_first is_second same other =
    let one = texts_from words 0 first file (omega (arith, two)) is_first same in
    let next = texts_from words 1 second certificate (omega (arith, two)) is_second other in
    one ∙ ap (λ (z : List (List ℕ)). file ∷ z) next

-- fewer words than two
pub few_words : (words : List (String Global)) → length words < 2 → length (texts words) < 2
few_words words few = let least = few_texts words 1 (omega (arith, few)) in omega (arith, least)
