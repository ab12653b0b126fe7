-- In two orders of the extensions a text has one reading.
use Rattle.std.proofs.Common.{◌≡◌, ◌↔◌, ◌∙◌, ℕ, Bool, false, List, length, map, replicate, slice_get, ap, refl, sym, subst}
use Rattle.std.proofs.lemmas.List.{length-replicate}
use Rattle.std.proofs.lemmas.Option.{same_Some}
use Rattle.wb_base.specs.Grammar.{GrammarView}
use Rattle.wb_certify_shown.specs.Names.{terminals_in}
use Rattle.wb_compose.proofs.WrittenApart.{all_certified}
use Rattle.wb_compose.specs.Joined.{AreCertifiedApart, Extended}
use Rattle.wb_compose.specs.Written.{written_in}
use Rattle.wb_compose_theory.specs.Renamings.{Renaming}
use Rattle.wb_compose.specs.Languages.{IsUnitedLanguage}
use Rattle.wb_reading.specs.OrderedLanguages.{IsSameBy}
use Rattle.wb_reading.specs.Orders.{IsReordering, number_to}
use Rattle.wb_reading.specs.OrderedUnions.{names_to}
use Rattle.wb_reading.proofs.OrderedLanguageLemmas.{same_union}
use Rattle.wb_reading.proofs.OrderedNameLemmas.{in_turn_there}
use Rattle.wb_reading.proofs.OrderedNumberLemmas.{reordering_back, reordering_map}
use Rattle.wb_compose.specs.Lexicons.{lexicon_of}
use Rattle.wb_operations.specs.Operations.{OperationSignature}
use Rattle.wb_reading.specs.Markers.{IsMarkerAt, IsPlain}
use Rattle.wb_reading.proofs.MarkerLemmas.{one_marker}
use Rattle.wb_scan_theory.specs.Languages.{LanguageView}
use Rattle.wb_syntax_resolved.specs.declared.resolved.ResolvedParts.{ResolvedParts}
use Rattle.wb_termset.specs.Sets.{IsMember}
use Rattle.wb_compose_texts.specs.Names.{name_at, terminals_of}
use Rattle.wb_compose_texts.specs.Readings.{HasFirstMarker, HasOneReading, HasSameReading, IsReadingIn}
use Rattle.wb_compose_texts.specs.UnionMarkers.{added_markers, union_markers}
use Rattle.wb_compose_texts.specs.Unions.{IsLanguageOf, Union}
use Rattle.wb_compose_texts.specs.declared.text_reading.TextReading.{TextReading}
use Rattle.wb_compose_texts.specs.declared.text_reading.TextReading.TheVariants.{Host, MarkerAt}
use Rattle.wb_compose_texts.proofs.AnswerLemmas.{named, written_are}
use Rattle.wb_compose_texts.proofs.BlockLemmas.{at_flag, flag_at}
use Rattle.wb_compose_texts.proofs.MarkerLemmas.{marker_there}
use Rattle.wb_compose_texts.proofs.MarkingLemmas.{flag_lens}
use Rattle.wb_compose_texts.proofs.NameLemmas.{resolved_in}
use Rattle.wb_compose_texts.proofs.SameLanguage.{still}

-- a terminal has in the other order the flag that it has in the one
flag_there : (host : ResolvedParts) (h : GrammarView) (operations : List OperationSignature) (xs ys : List Extended)
    (one : AreCertifiedApart host h operations xs) (two : AreCertifiedApart host h operations ys) (to from : ℕ → ℕ) →
    IsReordering to from (resolved_in xs) (resolved_in ys) → (t : ℕ) →
    slice_get (union_markers host (resolved_in ys)) ((names_to h host.extensible (written_in h xs) (written_in h ys) to).terminal t) ≡
    slice_get (union_markers host (resolved_in xs)) t
flag_there host h operations xs ys one two to from re t =
    let own = replicate (terminals_in host.grammar) false in
    let own_len : length own ≡ h.terminals = length-replicate (terminals_in host.grammar) false ∙ ap terminals_in one.host_start in
    let first = flag_lens host h operations one.host_start xs one.each in
    let second = flag_lens host h operations two.host_start ys two.each in
    let number : number_to (length own) (map length (map (added_markers host) (resolved_in xs)))
    (map length (map (added_markers host) (resolved_in ys))) to t ≡
    (names_to h host.extensible (written_in h xs) (written_in h ys) to).terminal t
    = λ z. number_to (own_len z) (first z) (second z) to t in
    ap (slice_get (union_markers host (resolved_in ys))) (sym number) ∙ in_turn_there own (reordering_map (added_markers host) re) t

-- in two sets of flags that are one in other numbers, the members are one
moved_by : (here there : List Bool) (n k : ℕ) → slice_get there k ≡ slice_get here n → IsMember here n ↔ IsMember there k
moved_by here there n k same =
    (λ has. at_flag there k (same ∙ flag_at here n has), λ has. at_flag here n (sym same ∙ flag_at there k has))

module _ (host : ResolvedParts) (operations : List OperationSignature) (extensions others : List ResolvedParts) (to from : ℕ → ℕ)
    (re : IsReordering to from extensions others) (u : Union host operations extensions) (v : Union host operations others)
    (l m : LanguageView) (is : IsLanguageOf host operations extensions u l) (also : IsLanguageOf host operations others v m) where
  -- both by one grammar of the host
  grammars : v.grammar ≡ u.grammar
  grammars = same_Some v.grammar u.grammar (sym v.certified.host_start ∙ u.certified.host_start)

  apart : AreCertifiedApart host u.grammar operations v.extended
  apart = subst (λ g. AreCertifiedApart host g operations v.extended) grammars v.certified

  reordering : IsReordering to from (resolved_in u.extended) (resolved_in v.extended)
  reordering = subst (λ z. IsReordering to from z (resolved_in v.extended)) (sym u.extensions_are)
      (subst (IsReordering to from extensions) (sym v.extensions_are) re)

  united_there : IsUnitedLanguage u.grammar host.extensible (lexicon_of host u.grammar) (written_in u.grammar v.extended) m
  united_there = subst (λ g. IsUnitedLanguage g host.extensible (lexicon_of host g) (written_in g v.extended) m) grammars also.of_union

  -- where numbers go
  abbrev pub r : Renaming
  r = names_to u.grammar host.extensible (written_in u.grammar u.extended) (written_in u.grammar v.extended) to

  same : IsSameBy r (names_to u.grammar host.extensible (written_in u.grammar v.extended) (written_in u.grammar u.extended) from) l m
  same = same_union u.grammar host.extensible (lexicon_of host u.grammar) (written_in u.grammar u.extended)
      (written_in u.grammar v.extended) to from
      ((all_certified host u.grammar operations u.extended u.certified).are_pieces)
      (written_are host u.grammar operations u.extended v.extended u.certified apart to from reordering) l m is.of_union united_there

  -- markers go to markers, and nothing else does
  marked : (t : ℕ) → IsMember (union_markers host extensions) t ↔ IsMember (union_markers host others) (r.terminal t)
  marked t =
      let flag = flag_there host u.grammar operations u.extended v.extended u.certified apart to from reordering t in
      moved_by (union_markers host extensions) (union_markers host others) t (r.terminal t)
      (ap (λ z. slice_get (union_markers host z) (r.terminal t)) (sym v.extensions_are) ∙
      (flag ∙ ap (λ z. slice_get (union_markers host z) t) u.extensions_are))

  -- so a first marker is one in the other order
  pub marker_to : (text : List ℕ) (place marker : ℕ) → IsMarkerAt l (union_markers host extensions) text place marker →
      IsMarkerAt m (union_markers host others) text place (r.terminal marker)
  marker_to = marker_there same.2 (union_markers host extensions) (union_markers host others) marked

  -- and has the same name
  pub name_there : (t : ℕ) → name_at (terminals_of host others) (r.terminal t) ≡ name_at (terminals_of host extensions) t
  name_there t =
      ap (λ z. name_at (terminals_of host z) (r.terminal t)) (sym v.extensions_are) ∙
      (named host u.grammar operations u.extended v.extended u.certified apart to from reordering t ∙
      ap (λ z. name_at (terminals_of host z) t) u.extensions_are)

module _ (host : ResolvedParts) (operations : List OperationSignature) (extensions others : List ResolvedParts) (to from : ℕ → ℕ)
    (re : IsReordering to from extensions others) (u : Union host operations extensions) (v : Union host operations others)
    (l m : LanguageView) (is : IsLanguageOf host operations extensions u l) (also : IsLanguageOf host operations others v m)
    (text : List ℕ) where
  -- a text without markers has none in the other order
  pub plain_to : IsPlain m (union_markers host others) text → IsPlain l (union_markers host extensions) text
  plain_to plain place marker x =
      plain place _ (marker_to host operations extensions others to from re u v l m is also text place marker x)

  same_first : (p q : ℕ) (n k : List ℕ) → HasFirstMarker (terminals_of host extensions) (union_markers host extensions) l text p n →
      HasFirstMarker (terminals_of host others) (union_markers host others) m text q k → MarkerAt p n ≡ MarkerAt q k
  same_first p q n k x y =
      let there = marker_to host operations extensions others to from re u v l m is also text p x.terminal x.first in
      let one = one_marker m (union_markers host others) also.language text p q _ y.terminal there y.first in
      let name_is : n ≡ k = x.named ∙ (sym (name_there host operations extensions others to from re u v l m is also x.terminal) ∙
      (ap (name_at (terminals_of host others)) one.1 ∙ sym y.named)) in
      ap (λ z. MarkerAt z n) one.0 ∙ ap (MarkerAt q) name_is

  same_reading : (one other : TextReading) → IsReadingIn (terminals_of host extensions) (union_markers host extensions) l text one →
      IsReadingIn (terminals_of host others) (union_markers host others) m text other → one ≡ other
  same_reading Host Host x y = refl
  same_reading Host (MarkerAt q k) x y =
      absurd (x q _ (marker_to host operations others extensions from to (reordering_back re) v u m l also is text q y.terminal y.first))
  same_reading (MarkerAt p n) Host x y =
      absurd (y p _ (marker_to host operations extensions others to from re u v l m is also text p x.terminal x.first))
  same_reading (MarkerAt p n) (MarkerAt q k) x y = same_first p q n k x y

pub same_readings : (host : ResolvedParts) (operations : List OperationSignature) (extensions others : List ResolvedParts) (to from : ℕ → ℕ) →
    IsReordering to from extensions others → HasSameReading host operations extensions others
same_readings host operations extensions others to from re text one other x y =
    same_reading host operations extensions others to from re x.whole y.whole x.language y.language x.is_language y.is_language text one other
    x.is y.is

-- in one order too
pub one_reading : (host : ResolvedParts) (operations : List OperationSignature) (extensions : List ResolvedParts) →
    HasOneReading host operations extensions
one_reading host operations extensions =
    same_readings host operations extensions extensions (λ k. k) (λ k. k) (still extensions)
