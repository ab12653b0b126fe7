-- In two orders of the extensions a text has one answer.
use Rattle.std.proofs.Common.{◌≡◌, ◌≤◌, ◌∙◌, ℕ, List, Some, All, length, map, slice_get, ap, refl, sym, subst, arith}
use Rattle.std.proofs.lemmas.Option.{same_Some}
use Rattle.wb_base.specs.Grammar.{GrammarView}
use Rattle.wb_compose.specs.Lexicons.{lexicon_of}
use Rattle.wb_compose.specs.Kept.{AreCertifiedBoth}
use Rattle.wb_compose.specs.Joined.{AreCertifiedApart, Extended}
use Rattle.wb_compose.specs.Written.{written_in, written_with}
use Rattle.wb_compose.proofs.WrittenApart.{all_certified}
use Rattle.wb_scan_theory.specs.Facts.{IsLanguage}
use Rattle.wb_scan_theory.specs.Languages.{LanguageView}
use Rattle.wb_scan_theory.specs.Shown.{Shows}
use Rattle.wb_scan_theory.specs.declared.stop_kind.StopKind.{StopKind}
use Rattle.wb_scan_theory.specs.declared.stop_kind.StopKind.TheVariants as kind
use Rattle.wb_scan_theory.proofs.TextLemmas.{not_both, one_stop, one_tree}
use Rattle.wb_lemmas.proofs.Elements.{all_at}
use Rattle.wb_operations.specs.Operations.{OperationSignature}
use Rattle.wb_reading.specs.OrderedAnswers.{renamed_forest, renamed_kind}
use Rattle.wb_reading.specs.OrderLaws.{HasSameAnswers}
use Rattle.wb_reading.proofs.OrderedPrintedLemmas.{printed_alike}
use Rattle.wb_reading.specs.Orders.{IsReordering, number_to}
use Rattle.wb_reading.specs.OrderedUnions.{names_to}
use Rattle.wb_reading.proofs.OrderedLanguageLemmas.{same_union_answers}
use Rattle.wb_reading.proofs.OrderedNameLemmas.{in_turn_there, names_there}
use Rattle.wb_reading.proofs.OrderedNumberLemmas.{reordering_map}
use Rattle.wb_report.specs.declared.shown.ShownStop.{ShownStop}
use Rattle.wb_report.specs.declared.shown.ShownStop.TheVariants as stop
use Rattle.wb_syntax_resolved.specs.declared.resolved.ResolvedParts.{ResolvedParts}
use Rattle.wb_certify_shown.specs.Names.{grammar_terminals, or_end}
use Rattle.wb_compose_texts.specs.declared.text_answer.TextAnswer.{TextAnswer}
use Rattle.wb_compose_texts.specs.declared.text_answer.TextAnswer.TheVariants as a
use Rattle.wb_compose_theory_grammar.proofs.FactLemmas.{at_map, map_at}
use Rattle.wb_compose.specs.Languages.{IsUnitedLanguage}
use Rattle.wb_compose_theory.specs.Renamings.{Renaming}
use Rattle.wb_values.specs.Signature.{Signature}
use Rattle.wb_compose_texts.specs.Answers.{HasPrintedTree, HasSameAnswer, IsAnswerIn, StopsShown}
use Rattle.wb_compose_texts.specs.Names.{added_names, name_at, stop_shown, terminals_of}
use Rattle.wb_compose_texts.specs.Signatures.{added_signatures, signatures_of}
use Rattle.wb_compose_texts.specs.Unions.{Union}
use Rattle.wb_compose_texts.proofs.NameLemmas.{in_turn_are, own_terminals, resolved_in, terminal_lens}

-- the trees and stops of one language are those of another by a renaming, and names are the same
module _ (r : Renaming) (l m : LanguageView) (same : HasSameAnswers r l m) (ok : IsLanguage m) (names others : List (List ℕ))
    (named : (t : ℕ) → name_at others (r.terminal t) ≡ name_at names t) (signatures also : List Signature)
    (printed_there : (text : List ℕ) (p : List ℕ) (tree : HasPrintedTree names signatures l text p) (q : List ℕ)
    (other : HasPrintedTree others also m text q) → other.root ≡ renamed_forest r tree.root → p ≡ q) (text : List ℕ) where
  one_printed : (p q : List ℕ) → HasPrintedTree names signatures l text p → HasPrintedTree others also m text q → p ≡ q
  one_printed p q tree other = printed_there text p tree q other
      (one_tree m ok text other.root (renamed_forest r tree.root) other.parses ((same.trees text tree.root).0 tree.parses))

  not_stopped : (p : List ℕ) (place : ℕ) (shown : ShownStop) → HasPrintedTree names signatures l text p →
      StopsShown others also m text place shown → ⊥
  not_stopped p place shown tree stops =
      not_both m ok text (renamed_forest r tree.root) place stops.kind ((same.trees text tree.root).0 tree.parses) stops.stops

  not_parsed : (q : List ℕ) (place : ℕ) (shown : ShownStop) → HasPrintedTree others also m text q →
      StopsShown names signatures l text place shown → ⊥
  not_parsed q place shown tree stops =
      not_both m ok text tree.root place (renamed_kind r stops.kind) tree.parses ((same.stops text place stops.kind).0 stops.stops)

  shown_there : (k : StopKind) → stop_shown others (renamed_kind r k) ≡ stop_shown names k
  shown_there kind.NoToken = refl
  shown_there (kind.Unexpected t) = ap stop.Unexpected (named t)

  one_place : (place other : ℕ) (shown more : ShownStop) → StopsShown names signatures l text place shown →
      StopsShown others also m text other more → a.Stopped place shown ≡ a.Stopped other more
  one_place place other shown more first second =
      let at = one_stop m ok text place other (renamed_kind r first.kind) second.kind
      ((same.stops text place first.kind).0 first.stops) second.stops in
      let is : shown ≡ more = first.is ∙ (sym (shown_there first.kind) ∙ (ap (stop_shown others) at.1 ∙ sym second.is)) in
      ap (λ z. a.Stopped z shown) at.0 ∙ ap (a.Stopped other) is

  pub one_answer : (x y : TextAnswer) → IsAnswerIn names signatures l text x → IsAnswerIn others also m text y → x ≡ y
  one_answer (a.Tree p) (a.Tree q) first second = ap a.Tree (one_printed p q first.0 second.0)
  one_answer (a.Tree p) (a.Stopped place shown) first second = absurd (not_stopped p place shown first.0 second)
  one_answer (a.Tree p) a.TooLong first second =
      let same = one_printed p second.printed first.0 second.has in
      let short : length second.printed ≤ 16777216 = subst (λ z. length z ≤ 16777216) same first.1 in
      let long = second.long in
      absurd (omega (arith, short, long))
  one_answer (a.Stopped place shown) (a.Tree q) first second = absurd (not_parsed q place shown second.0 first)
  one_answer (a.Stopped place shown) (a.Stopped other more) first second = one_place place other shown more first second
  one_answer (a.Stopped place shown) a.TooLong first second = absurd (not_parsed second.printed place shown second.has first)
  one_answer a.TooLong (a.Tree q) first second =
      let same = one_printed first.printed q first.has second.0 in
      let short : length first.printed ≤ 16777216 = subst (λ z. length z ≤ 16777216) (sym same) second.1 in
      let long = first.long in
      absurd (omega (arith, short, long))
  one_answer a.TooLong (a.Stopped place shown) first second = absurd (not_stopped first.printed place shown first.has second)
  one_answer a.TooLong a.TooLong first second = refl

module _ (host : ResolvedParts) (h : GrammarView) (operations : List OperationSignature) where
  abbrev pub Both : Extended → Type 0
  Both e = AreCertifiedBoth host e.resolved h e.grammar operations

  -- what is resolved has one grammar
  pub extended_is : (x y : Extended) → Both x → Both y → x.resolved ≡ y.resolved → x ≡ y
  extended_is x y one two same =
      let grammar : x.grammar ≡ y.grammar =
      same_Some x.grammar y.grammar (sym one.start ∙ (ap (λ (r : ResolvedParts). r.grammar) same ∙ two.start)) in
      λ j. record { resolved = same j; grammar = grammar j }

  -- extensions in the other order, with their grammars
  extended_there : (xs ys : List Extended) (to : ℕ → ℕ) → All Both xs → All Both ys →
      ((k : ℕ) (r : ResolvedParts) → slice_get (resolved_in xs) k ≡ Some r → slice_get (resolved_in ys) (to k) ≡ Some r) → (k : ℕ)
      (x : Extended) → slice_get xs k ≡ Some x → slice_get ys (to k) ≡ Some x
  extended_there xs ys to one two there k x at =
      let (y, y_at, is) = map_at (λ (e : Extended). e.resolved) ys (to k) x.resolved
      (there k x.resolved (at_map (λ (e : Extended). e.resolved) xs k x at)) in
      y_at ∙ ap Some (sym (extended_is x y (all_at Both xs k x one at) (all_at Both ys (to k) y two y_at) is))

  module _ (xs ys : List Extended) (one : AreCertifiedApart host h operations xs) (two : AreCertifiedApart host h operations ys)
      (to from : ℕ → ℕ) (re : IsReordering to from (resolved_in xs) (resolved_in ys)) where
    reordered_are : IsReordering to from xs ys
    reordered_are = record {
      there = extended_there xs ys to one.each two.each re.there;
      back = extended_there ys xs from two.each one.each re.back;
      undone = re.undone;
      redone = re.redone;
    }

    pub written_are : IsReordering to from (written_in h xs) (written_in h ys)
    written_are = reordering_map (λ (e : Extended). written_with h e.resolved e.grammar) reordered_are

    abbrev pub names : Renaming
    names = names_to h host.extensible (written_in h xs) (written_in h ys) to

    -- terminals have the same names
    pub named : (t : ℕ) → name_at (terminals_of host (resolved_in ys)) (names.terminal t) ≡ name_at (terminals_of host (resolved_in xs)) t
    named t =
        let own = own_terminals host h operations xs one in
        let first = terminal_lens host h operations one.host_start xs one.each in
        let second = terminal_lens host h operations one.host_start ys two.each in
        let there = in_turn_there (grammar_terminals host) (reordering_map (added_names host) re) t in
        let number : number_to (length (grammar_terminals host)) (map length (map (added_names host) (resolved_in xs)))
        (map length (map (added_names host) (resolved_in ys))) to t ≡ names.terminal t = λ z. number_to (own z) (first z) (second z) to t in
        ap (name_at (terminals_of host (resolved_in ys))) (sym number) ∙ ap or_end there

    module _ (l m : LanguageView) (l_is : IsUnitedLanguage h host.extensible (lexicon_of host h) (written_in h xs) l)
        (m_is : IsUnitedLanguage h host.extensible (lexicon_of host h) (written_in h ys) m) (ok : IsLanguage m) where
      same : HasSameAnswers names l m
      same = same_union_answers h host.extensible (lexicon_of host h) (written_in h xs) (written_in h ys) to from
          (all_certified host h operations xs one).are_pieces written_are l m l_is m_is

      -- and trees are printed alike
      printed_there : (text : List ℕ) (p : List ℕ)
          (tree : HasPrintedTree (terminals_of host (resolved_in xs)) (signatures_of host (resolved_in xs)) l text p) (q : List ℕ)
          (other : HasPrintedTree (terminals_of host (resolved_in ys)) (signatures_of host (resolved_in ys)) m text q) →
          other.root ≡ renamed_forest names tree.root → p ≡ q
      printed_there text p tree q other root =
          let blocks = reordering_map (λ (r : ResolvedParts). map (λ (s : Signature). s.name) (added_signatures host r)) re in
          let turn = names_there (in_turn_are host h operations xs one) (in_turn_are host h operations ys two) blocks l.grammar in
          tree.is ∙ (sym (printed_alike names l.grammar (signatures_of host (resolved_in xs)) (signatures_of host (resolved_in ys)) turn
          tree.root tree.parses.is_tree tree.value other.value tree.shows (subst (Shows other.value) root other.shows)) ∙ sym other.is)

      pub one_in_both : (text : List ℕ) (x y : TextAnswer) →
          IsAnswerIn (terminals_of host (resolved_in xs)) (signatures_of host (resolved_in xs)) l text x →
          IsAnswerIn (terminals_of host (resolved_in ys)) (signatures_of host (resolved_in ys)) m text y → x ≡ y
      one_in_both text x y first second =
          one_answer names l m same ok (terminals_of host (resolved_in xs)) (terminals_of host (resolved_in ys)) named
          (signatures_of host (resolved_in xs)) (signatures_of host (resolved_in ys)) printed_there text x y first second

pub same_answer : (host : ResolvedParts) (operations : List OperationSignature) (extensions others : List ResolvedParts) (to from : ℕ → ℕ) →
    IsReordering to from extensions others → HasSameAnswer host operations extensions others
same_answer host operations extensions others to from re text x y first second =
    one_in_both host u.grammar operations u.extended v.extended u.certified
    (subst (λ g. AreCertifiedApart host g operations v.extended) grammars v.certified) to from
    (subst (λ z. IsReordering to from z (resolved_in v.extended)) (sym u.extensions_are)
    (subst (IsReordering to from extensions) (sym v.extensions_are) re)) first.language second.language
    first.is_language.of_union
    (subst (λ g. IsUnitedLanguage g host.extensible (lexicon_of host g) (written_in g v.extended) second.language) grammars
    second.is_language.of_union) second.is_language.language text x y
    (subst (λ z. IsAnswerIn (terminals_of host z) (signatures_of host z) first.language text x) (sym u.extensions_are) first.is)
    (subst (λ z. IsAnswerIn (terminals_of host z) (signatures_of host z) second.language text y) (sym v.extensions_are) second.is)
  where
    u : Union host operations extensions
    u = first.whole

    v : Union host operations others
    v = second.whole

    grammars : v.grammar ≡ u.grammar
    grammars = same_Some v.grammar u.grammar (sym v.certified.host_start ∙ u.certified.host_start)

-- in one order too
pub only_answer : (host : ResolvedParts) (operations : List OperationSignature) (extensions : List ResolvedParts) →
    HasSameAnswer host operations extensions extensions
only_answer host operations extensions =
    same_answer host operations extensions extensions (λ k. k) (λ k. k)
    (record { there = λ k x at. at; back = λ k x at. at; undone = λ k. refl; redone = λ k. refl })
