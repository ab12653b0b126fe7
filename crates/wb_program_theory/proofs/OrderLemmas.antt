-- What comes of a text with extensions comes of it with these in another order.
use Rattle.std.proofs.Common.{◌≡◌, ◌∙◌, ◌<◌, ◌+◌, ◌∷◌, inl, [], ℕ, List, length, map, refl, sym, ap, subst, arith}
use Rattle.std.specs.Prelude.{IfSome, option_map}
use Rattle.std.proofs.lemmas.List.{length-take-le}
use Rattle.std.proofs.lemmas.List.Elements.{All-map}
use Rattle.std.proofs.lemmas.Simd.{map-map}
use Rattle.wb_compose_theory_lists.proofs.LawLemmas.{is_of_rows}
use Rattle.wb_compose_theory_lists.specs.Hosts.{rows_of}
use Rattle.wb_base.specs.Different.{Differ}
use Rattle.wb_base.specs.Grammar.{GrammarView}
use Rattle.wb_compose_texts.proofs.AdditionLemmas.{is_addition_of}
use Rattle.wb_compose_texts.proofs.ComposeLaws.{is_attribution}
use Rattle.wb_compose_texts.specs.Attributes.{addition_of, additions_of, attributes_of}
use Rattle.wb_grammar_theory.specs.Trees.{IsDerived}
use Rattle.wb_certify_files.specs.Kept.{AreCertifiedBoth}
use Rattle.wb_compose_texts.specs.Joined.{AreCertifiedApart, Extended}
use Rattle.wb_compose_texts.specs.Written.{name_in}
use Rattle.wb_scan_theory.specs.declared.stop_kind.StopKind.{StopKind}
use Rattle.wb_scan_theory.specs.Languages.{LanguageView}
use Rattle.wb_scan_theory.specs.Texts.{StopsAt}
use Rattle.wb_lemmas.proofs.Elements.{all_weaker}
use Rattle.wb_compose_theory_lists.specs.Additions.{Addition, IsAddition, Rows}
use Rattle.wb_compose_theory_lists.specs.Laws.{AreAdded}
use Rattle.wb_operations.specs.Operations.{OperationSignature, Operations}
use Rattle.wb_compose_theory_attribute_order.specs.Attributions.{IsSameAttribution}
use Rattle.wb_compose_theory_attribute_order.specs.Values.{renamed_tree}
use Rattle.wb_compose_theory_attribute_order.proofs.RowLemmas.{same_back}
use Rattle.wb_compose_theory_order.specs.Answers.{renamed_forest, renamed_kind}
use Rattle.wb_compose_theory_attribute_order.specs.Orders.{moved, reordered_numbers, reordered_rows}
use Rattle.wb_compose_theory_attribute_order.proofs.OrderLemmas.{differ_there, same_union}
use Rattle.wb_compose_theory_order.specs.Orders.{IsReordering}
use Rattle.wb_compose_theory_order.proofs.NumberLemmas.{reordering_back, reordering_map, to_host}
use Rattle.wb_report.specs.declared.shown.ShownStop.{ShownStop}
use Rattle.wb_syntax_resolved.specs.declared.resolved.ResolvedParts.{ResolvedParts}
use Rattle.wb_syntax_resolved.specs.Grammar.{IsGrammarOf}
use Rattle.wb_compose_texts.specs.Asked.{IsAskedOn}
use Rattle.wb_compose_texts.specs.tree_value.TreeValue.{TreeValue}
use Rattle.wb_compose_texts.specs.declared.text_answer.TextAnswer.TheVariants as a
use Rattle.wb_compose_theory_grammar.specs.Places.{total_of}
use Rattle.wb_compose_texts.specs.Answers.{IsUnitedTextAnswer, StopsShown}
use Rattle.wb_compose_texts.specs.Names.{stop_shown, terminals_of}
use Rattle.wb_compose_texts.specs.Signatures.{signatures_of}
use Rattle.wb_compose_texts.specs.Unions.{IsLanguageOf, Union}
use Rattle.wb_compose_texts.proofs.AnswerLemmas.{same_answer}
use Rattle.wb_compose_texts.specs.Roots.{IsAskedIn}
use Rattle.wb_compose_texts.specs.Values.{HasRootValue, IsValueIn}
use Rattle.wb_compose_texts.specs.declared.value.TextValue.{TextValue}
use Rattle.wb_compose_texts.specs.declared.value.TextValue.TheVariants as answer
use Rattle.wb_program_theory.specs.ValueLaws.{AreInTwoOrders, HasSameRoots, HasSameValues}
use Rattle.wb_program_theory.proofs.AttributeLemmas.{asked_there, value_there}
use Rattle.wb_program_theory.proofs.ProductionLemmas.{shows_there}
use Rattle.wb_program_theory.proofs.UnionLemmas.{extended_re, extended_there, is_language_there, language_there, names, resolved_in}
use Rattle.wb_program_theory.proofs.UnionLemmas.{same_texts, union_there}

-- what certified extensions of different names add is added
are_added : (host : ResolvedParts) (g : GrammarView) (operations : List OperationSignature) (xs : List Extended)
    → AreCertifiedApart host g operations xs → Differ (map (λ (e : Extended). name_in e.resolved) xs)
    → AreAdded (rows_of host g) (additions_of host g xs)
are_added host g operations xs certified names_differ =
    let of_rows = is_of_rows host g (record {
      resolved = certified.host_resolved;
      alone = certified.host_certified.alone;
      grammar = certified.host_start;
    }) in
    record {
      host_roles = of_rows.roles;
      host_once = of_rows.once;
      each = All-map IsAddition (addition_of host g) xs
          (all_weaker (λ (e : Extended). AreCertifiedBoth host e.resolved g e.grammar operations)
          (λ e. IsAddition (addition_of host g e)) xs
          (λ e both. is_addition_of host g operations e both) certified.each);
      differ = subst Differ (sym (map-map (λ (x : Addition). x.name) (addition_of host g) xs)) names_differ;
    }

-- the start keeps its number
module _ (host : ResolvedParts) (g : GrammarView) (operations : List OperationSignature) (xs ys : List Extended) (to from : ℕ → ℕ)
    (re : IsReordering to from xs ys) (one : AreCertifiedApart host g operations xs) where
  abbrev rows : Rows
  rows = rows_of host g

  abbrev leading : Addition → ℕ
  leading x = length x.rows.nonterminals

  abbrev following : Addition → ℕ
  following x = length x.rows.abstract_nonterminals

  start_stays : (reordered_numbers rows (additions_of host g xs) (additions_of host g ys) to).nonterminal g.start ≡ g.start
  start_stays =
      let additions_re = reordering_map (addition_of host g) re in
      let its : IsGrammarOf host g = subst (λ z. IfSome z (IsGrammarOf host)) one.host_start one.host_resolved.numbered.grammar in
      let below : g.start < g.nonterminals =
      (its.nonterminals g.start).1 (inl (ap (option_map (λ (k : GrammarView). k.start)) one.host_start)) in
      let count = length-take-le g.nonterminals host.attributes.nonterminals its.nonterminals_len in
      let less : g.start < length rows.nonterminals = omega (arith, below, count) in
      let own = length rows.nonterminals + total_of (map leading (additions_of host g xs)) + length rows.abstract_nonterminals in
      ap (moved rows (additions_of host g xs) (additions_of host g ys) to own following)
      (to_host (length rows.nonterminals) (reordering_map leading additions_re) g.start less)
      ∙ to_host own (reordering_map following additions_re) g.start (omega (arith, less))

  -- the attributes are the same in other numbers
  same_attributes : Differ (map (λ (e : Extended). name_in e.resolved) xs) → IsSameAttribution
      (reordered_rows rows (additions_of host g xs) (additions_of host g ys) to)
      (reordered_rows rows (additions_of host g ys) (additions_of host g xs) from) (attributes_of host g xs) (attributes_of host g ys)
  same_attributes names_differ =
      same_union rows (additions_of host g xs) (additions_of host g ys) to from (are_added host g operations xs one names_differ)
      (reordering_map (addition_of host g) re)

-- names of extensions as those of their values
names_in : (xs : List Extended) → map name_in (resolved_in xs) ≡ map (λ (e : Extended). name_in e.resolved) xs
names_in [] = refl
names_in (x ∷ xs) = ap (λ z. name_in x.resolved ∷ z) (names_in xs)

module _ (host : ResolvedParts) (operations : Operations) (extensions others : List ResolvedParts) (to from : ℕ → ℕ)
    (two : AreInTwoOrders extensions others to from) (u : Union host operations.signatures extensions) where
  abbrev g : GrammarView
  g = u.grammar

  abbrev v : Union host operations.signatures others
  v = union_there host operations.signatures extensions others to from two.reordering u

  re : IsReordering to from u.extended v.extended
  re = extended_re host operations.signatures extensions others to from two.reordering u

  names_here : Differ (map (λ (e : Extended). name_in e.resolved) u.extended)
  names_here = subst Differ (ap (map name_in) (sym u.extensions_are) ∙ names_in u.extended) two.names

  names_beyond : Differ (map (λ (e : Extended). name_in e.resolved) v.extended)
  names_beyond = subst Differ (ap (map name_in) (sym v.extensions_are) ∙ names_in v.extended)
      (differ_there (reordering_map name_in two.reordering) two.names)

  abbrev t_rows : Rows
  t_rows = rows_of host g

  same : IsSameAttribution (reordered_rows t_rows (additions_of host g u.extended) (additions_of host g v.extended) to)
      (reordered_rows t_rows (additions_of host g v.extended) (additions_of host g u.extended) from) (attributes_of host g u.extended)
      (attributes_of host g v.extended)
  same = same_attributes host g operations.signatures u.extended v.extended to from re u.certified names_here

  -- an attribute that may be asked at the start
  pub asked_at_start : (name : List ℕ) (y : ℕ) → IsAskedIn host operations.signatures extensions u name y
      → IsAskedIn host operations.signatures others v name ((reordered_numbers t_rows (additions_of host g u.extended) (additions_of host g v.extended) to).attribute y)
  asked_at_start name y asked =
      subst (λ z. IsAskedOn (attributes_of host g v.extended) name z
      ((reordered_numbers t_rows (additions_of host g u.extended) (additions_of host g v.extended) to).attribute y))
      (start_stays host g operations.signatures u.extended v.extended to from re u.certified) (asked_there same name g.start y asked)

  pub asked_back : (name : List ℕ) (y : ℕ) → IsAskedIn host operations.signatures others v name y → IsAskedIn host operations.signatures
      extensions u name ((reordered_numbers t_rows (additions_of host g v.extended) (additions_of host g u.extended) from).attribute y)
  asked_back name y asked =
      subst (λ z. IsAskedOn (attributes_of host g u.extended) name z
      ((reordered_numbers t_rows (additions_of host g v.extended) (additions_of host g u.extended) from).attribute y))
      (start_stays host g operations.signatures v.extended u.extended from to (reordering_back re) v.certified)
      (asked_there (same_back same) name g.start y asked)

  module _ (l : LanguageView) (is : IsLanguageOf host operations.signatures extensions u l) (text name : List ℕ) (steps : ℕ) where
    abbrev m : LanguageView
    m = language_there host operations.signatures extensions others to from two.reordering u l is

    root_there : (value : TreeValue) → HasRootValue host operations extensions text name steps u l value
        → HasRootValue host operations others text name steps v m value
    root_there value has = record {
      root = renamed_forest (names host operations.signatures extensions others to from two.reordering u) has.root;
      parses = ((same_texts host operations.signatures extensions others to from two.reordering u l is).trees text has.root).0 has.parses;
      top = renamed_tree (reordered_numbers t_rows (additions_of host g u.extended) (additions_of host g v.extended) to) has.top;
      shows = shows_there host g operations.signatures u.certified.host_resolved u.certified.host_start u.extended v.extended
          u.certified.each v.certified.each to from re has.root
          (subst (λ z. IsDerived z has.root) is.of_union.grammar has.parses.is_tree.derived) has.top has.shows;
      attribute = (reordered_numbers t_rows (additions_of host g u.extended) (additions_of host g v.extended) to).attribute has.attribute;
      asked = asked_at_start name has.attribute has.asked;
      is = value_there same (is_attribution host g operations.signatures u.extended u.certified names_here).attributes
          (is_attribution host g operations.signatures v.extended v.certified names_beyond).attributes operations has.top has.attribute steps
          value
          has.is;
    }

    stop_there : (place : ℕ) (shown : ShownStop)
        → StopsShown (terminals_of host extensions) (signatures_of host extensions) l text place shown
        → StopsShown (terminals_of host others) (signatures_of host others) m text place shown
    stop_there place shown stops = record { kind = kind_there; stops = stops_there; is = same_shown } where
      kind_there : StopKind
      kind_there = renamed_kind (names host operations.signatures extensions others to from two.reordering u) stops.kind

      stops_there : StopsAt m text place kind_there
      stops_there =
          ((same_texts host operations.signatures extensions others to from two.reordering u l is).stops text place stops.kind).0
          stops.stops

      first : IsUnitedTextAnswer host operations.signatures extensions text (a.Stopped place shown)
      first = record { whole = u; language = l; is_language = is; is = stops }

      second : IsUnitedTextAnswer host operations.signatures others text
          (a.Stopped place (stop_shown (terminals_of host others) kind_there))
      second = record {
        whole = v;
        language = m;
        is_language = is_language_there host operations.signatures extensions others to from two.reordering u l is;
        is = record { kind = kind_there; stops = stops_there; is = refl };
      }

      same_shown : shown ≡ stop_shown (terminals_of host others) kind_there
      same_shown =
          let e = same_answer host operations.signatures extensions others to from two.reordering text (a.Stopped place shown)
          (a.Stopped place (stop_shown (terminals_of host others) kind_there)) first second in cc

    value_in : (value : TextValue) → IsValueIn host operations extensions text name steps u l value
        → IsValueIn host operations others text name steps v m value
    value_in (answer.Tree value) has = root_there value has
    value_in (answer.Stopped place shown) stops = stop_there place shown stops

pub values_there : (host : ResolvedParts) (operations : Operations) (extensions others : List ResolvedParts) (to from : ℕ → ℕ)
    → AreInTwoOrders extensions others to from → HasSameValues host operations extensions others
values_there host operations extensions others to from two text name steps value x = record {
  whole = union_there host operations.signatures extensions others to from two.reordering x.whole;
  language = language_there host operations.signatures extensions others to from two.reordering x.whole x.language x.is_language;
  is_language = is_language_there host operations.signatures extensions others to from two.reordering x.whole x.language x.is_language;
  is = value_in host operations extensions others to from two x.whole x.language x.is_language text name steps value x.is;
}

pub roots_there : (host : ResolvedParts) (operations : Operations) (extensions others : List ResolvedParts) (to from : ℕ → ℕ)
    → AreInTwoOrders extensions others to from → HasSameRoots host operations.signatures extensions others
roots_there host operations extensions others to from two = record {
  some = λ name y x. (
    (reordered_numbers (rows_of host x.whole.grammar) (additions_of host x.whole.grammar x.whole.extended)
        (additions_of host x.whole.grammar
        (extended_there host operations.signatures extensions others to from two.reordering x.whole)) to).attribute y,
    record {
      whole = union_there host operations.signatures extensions others to from two.reordering x.whole;
      asked = asked_at_start host operations extensions others to from two x.whole name y x.asked;
    },
  );
  none = λ name x. record {
    whole = union_there host operations.signatures extensions others to from two.reordering x.whole;
    none = λ y asked. x.none _ (asked_back host operations extensions others to from two x.whole name y asked);
  };
}
