-- A certified host and certified extensions are what unions are made of.
use Rattle.std.proofs.Common.{◌≡◌, ◌∙◌, ◌∷◌, [], ℕ, List, IsTrue, All, length, map, refl, sym, ap, subst}
use Rattle.std.specs.List.{AllZip}
use Rattle.std.proofs.lemmas.List.Elements.{All-cons, All-head, All-nil, All-tail}
use Rattle.wb_base.specs.Different.{Differ}
use Rattle.wb_base.specs.Grammar.{GrammarView}
use Rattle.wb_certify.specs.Kept.{AreCertifiedBoth, ExtensionView}
use Rattle.wb_certify.specs.Hosts.{CertifiedView, IsCertifiedValue}
use Rattle.wb_determinism_contexts.specs.Considered.{LexiconView}
use Rattle.wb_certify.specs.Lexicons.{lexicon_of}
use Rattle.wb_compose.specs.Joined.{AreCertifiedApart, Extended}
use Rattle.wb_compose.specs.Written.{name_in, written_in}
use Rattle.wb_compose.proofs.JoinedLemmas.{markers_are}
use Rattle.wb_compose.proofs.WrittenApart.{all_apart, all_certified}
use Rattle.wb_scan_theory.specs.Languages.{LanguageView}
use Rattle.wb_syntax_resolved.specs.declared.resolved.ResolvedParts.{ResolvedParts}
use Rattle.wb_syntax_resolved.specs.Resolved.{IsResolved}
use Rattle.wb_compose_theory_grammar.specs.Bridges.{BeginsBridge}
use Rattle.wb_compose_theory_grammar.specs.Certificates.{AreCertified}
use Rattle.wb_compose_theory_language.specs.Apart.{AreWrittenApart}
use Rattle.wb_compose_theory_language.specs.Languages.{AreWithdrawn, IsUnitedLanguage}
use Rattle.wb_compose_theory_language.specs.Written.{WrittenPiece, pieces_of}
use Rattle.wb_compose_language.specs.declared.addition.Addition.{Addition}
use Rattle.wb_compose_language.specs.declared.addition.Lent.{Lent}
use Rattle.wb_compose_language.specs.Lents.{HasBridges, IsUnitable, all_in, is_marker_in, own_in, written_beside}
use Rattle.wb_compose_language.specs.Lents as lents
use Rattle.wb_compose_language.specs.United.{HasWithdrawn, IsUnion}
use Rattle.wb_compose.specs.Composed.{IsComposed, IsExtended, IsWith, name_of}
use Rattle.wb_compose.specs.Inner.Lending.{IsLent, IsLentHost}
use Rattle.wb_compose.proofs.LendingLemmas.{lexicon_is, marker_flags, written_is}

-- each extension with its grammar
abbrev extended_by : ExtensionView → Addition → Extended
extended_by e x = record { resolved = e.resolved; grammar = x.grammar.now }

abbrev pub all_extended : (es : List ExtensionView) (xs : List Addition) → AllZip IsLent es xs → List Extended
all_extended [] [] all = []
all_extended [] (x ∷ xs) all = absurd all
all_extended (e ∷ es) [] all = absurd all
all_extended (e ∷ es) (x ∷ xs) all = extended_by e x ∷ all_extended es xs all.1

-- they are what was lent
each_extended : (es : List ExtensionView) (xs : List Addition) (all : AllZip IsLent es xs) → AllZip IsExtended es (all_extended es xs all)
each_extended [] [] all = tt
each_extended [] (x ∷ xs) all = absurd all
each_extended (e ∷ es) [] all = absurd all
each_extended (e ∷ es) (x ∷ xs) all = (record { resolved_is = refl; start = all.0.start }, each_extended es xs all.1)

-- are written as they were certified
all_written : (h : GrammarView) (es : List ExtensionView) (xs : List Addition) (all : AllZip IsLent es xs) →
    map (lents.written_in (length h.productions)) xs ≡ written_in h (all_extended es xs all)
all_written h [] [] all = refl
all_written h [] (x ∷ xs) all = absurd all
all_written h (e ∷ es) [] all = absurd all
all_written h (e ∷ es) (x ∷ xs) all = λ j. written_is h e x all.0 j ∷ all_written h es xs all.1 j

-- and have their names
all_named : (es : List ExtensionView) (xs : List Addition) (all : AllZip IsLent es xs) →
    map name_of es ≡ map (λ (e : Extended). name_in e.resolved) (all_extended es xs all)
all_named [] [] all = refl
all_named [] (x ∷ xs) all = absurd all
all_named (e ∷ es) [] all = absurd all
all_named (e ∷ es) (x ∷ xs) all = ap (λ z. name_of e ∷ z) (all_named es xs all.1)

module _ (host : CertifiedView) (es : List ExtensionView) (xs : List Addition) (lent : Lent) (whole : IsResolved host.resolved)
    (certified : IsCertifiedValue host.resolved host.operations) (each : All (IsWith host) es) (all : AllZip IsLent es xs)
    (is : IsLentHost host.resolved xs lent) where
  abbrev h : GrammarView
  h = lent.grammar.now

  abbrev Both : Extended → Type 0
  Both e = AreCertifiedBoth host.resolved e.resolved h e.grammar host.operations

  -- one that was lent is certified with the host
  both_at : (e : ExtensionView) (x : Addition) → IsWith host e → IsLent e x → Both (extended_by e x)
  both_at e x with_host lent_is =
      let start = ap (λ (r : ResolvedParts). r.grammar) with_host.host_is ∙ is.start in
      subst (λ r. AreCertifiedBoth r e.resolved h x.grammar.now host.operations) with_host.host_is
      (subst (λ os. AreCertifiedBoth e.host e.resolved h x.grammar.now os) with_host.operations_are (lent_is.both h start))

  all_both : (es' : List ExtensionView) (xs' : List Addition) (all' : AllZip IsLent es' xs') → All (IsWith host) es' →
      All Both (all_extended es' xs' all')
  all_both [] [] all' each' = All-nil Both
  all_both [] (x ∷ xs') all' each' = absurd all'
  all_both (e ∷ es') [] all' each' = absurd all'
  all_both (e ∷ es') (x ∷ xs') all' each' = All-cons Both (extended_by e x) (all_extended es' xs' all'.1)
      (both_at e x (All-head (IsWith host) e es' each') all'.0) (all_both es' xs' all'.1 (All-tail (IsWith host) e es' each'))

  abbrev extended : List Extended
  extended = all_extended es xs all

  apart : AreCertifiedApart host.resolved h host.operations extended
  apart = record {
    host_resolved = whole;
    host_start = is.start;
    host_certified = certified;
    each = all_both es xs all each;
  }

  -- what is lent of the host, and of all extensions
  own_is : own_in lent ≡ lexicon_of host.resolved h
  own_is = lexicon_is host.resolved h lent.terminals.now lent.preferences.now is.terminals_are is.preferences_are

  all_is : all_in lent ≡ written_in h extended
  all_is = ap (map (written_beside lent)) is.extensions_are ∙ all_written h es xs all

  -- markers begin bridges
  bridges_at : (e : ExtensionView) (x : Addition) → Both (extended_by e x) → IsLent e x → HasBridges lent x
  bridges_at e x both lent_is t marker =
      let flags = marker_flags e x lent_is in
      subst (λ extensible. BeginsBridge h extensible x.grammar.now (is_marker_in x) t) (sym is.extensible_are)
      (subst (λ f. BeginsBridge h host.resolved.extensible x.grammar.now f t) (sym flags)
      ((markers_are host.resolved e.resolved h x.grammar.now host.operations both).bridge t (subst (λ f. IsTrue (f t)) flags marker)))

  all_bridges : (es' : List ExtensionView) (xs' : List Addition) (all' : AllZip IsLent es' xs') → All (IsWith host) es' →
      All (HasBridges lent) xs'
  all_bridges [] [] all' each' = All-nil (HasBridges lent)
  all_bridges [] (x ∷ xs') all' each' = absurd all'
  all_bridges (e ∷ es') [] all' each' = absurd all'
  all_bridges (e ∷ es') (x ∷ xs') all' each' = All-cons (HasBridges lent) x xs'
      (bridges_at e x (both_at e x (All-head (IsWith host) e es' each') all'.0) all'.0)
      (all_bridges es' xs' all'.1 (All-tail (IsWith host) e es' each'))

  -- so they are what unions are made of
  pub unitable : Differ (map name_of es) → IsUnitable lent
  unitable differ = record {
    certified = subst (λ ps. AreCertified h lent.extensible.now (pieces_of ps)) (sym all_is)
        (subst (λ extensible. AreCertified h extensible (pieces_of (written_in h extended))) (sym is.extensible_are)
        (all_certified host.resolved h host.operations extended apart));
    apart = subst (λ ps. AreWrittenApart h lent.extensible.now (own_in lent) ps) (sym all_is)
        (subst (λ own. AreWrittenApart h lent.extensible.now own (written_in h extended)) (sym own_is)
        (subst (λ extensible. AreWrittenApart h extensible (lexicon_of host.resolved h) (written_in h extended)) (sym is.extensible_are)
        (all_apart host.resolved h host.operations extended apart (subst Differ (all_named es xs all) differ))));
    bridges = subst (λ ys. All (HasBridges lent) ys) (sym is.extensions_are) (all_bridges es xs all each);
  }

  -- and what is made of the union is composed of them
  pub composed : (l : LanguageView) (withdrawn : List ℕ) → IsUnion lent l → HasWithdrawn lent withdrawn → IsComposed host es l withdrawn
  composed l withdrawn union withdrawn_are = record {
    grammar = h;
    start = is.start;
    extended = extended;
    each = each_extended es xs all;
    certified = apart;
    language = moved (λ extensible own written. IsUnitedLanguage h extensible own written l) union;
    withdrawn_are = moved (λ extensible own written. AreWithdrawn h extensible own written withdrawn) withdrawn_are;
  }
    where
      moved : (P : List ℕ → LexiconView → List WrittenPiece → Type 0) → P lent.extensible.now (own_in lent) (all_in lent) →
          P host.resolved.extensible (lexicon_of host.resolved h) (written_in h extended)
      moved P here = subst (λ z. P z (lexicon_of host.resolved h) (written_in h extended)) is.extensible_are
          (subst (λ z. P lent.extensible.now z (written_in h extended)) own_is (subst (P lent.extensible.now (own_in lent)) all_is here))

-- what is lent of equal ones
pub lent_same : (r q : ResolvedParts) (xs ys : List Addition) (lent : Lent) → r ≡ q → xs ≡ ys → IsLentHost r xs lent → IsLentHost q ys lent
lent_same r q xs ys lent host_is additions_are is =
    subst (λ z. IsLentHost z ys lent) host_is (subst (λ zs. IsLentHost r zs lent) additions_are is)
