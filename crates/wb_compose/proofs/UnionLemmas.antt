-- The attributes of a certified host with certified extensions are the union of those that were tested.
use Rattle.std.proofs.Common.{◌≡◌, ◌∙◌, ◌<◌, ◌+◌, ◌∷◌, [], List, length, map, refl, sym, ap, subst, arith}
use Rattle.std.specs.Prelude.{All}
use Rattle.std.proofs.lemmas.List.Elements.{All-head, All-map, All-tail}
use Rattle.std.proofs.lemmas.Simd.{map-map}
use Rattle.wb_compose_theory_lists.proofs.LawLemmas.{is_of_rows}
use Rattle.wb_compose_theory_lists.specs.Hosts.{IsOfRows, rows_of}
use Rattle.wb_base.specs.Different.{Differ}
use Rattle.wb_base.specs.Grammar.{GrammarView}
use Rattle.wb_compose.proofs.AdditionLemmas.{attributes_are, is_addition_of}
use Rattle.wb_certify.proofs.RowLemmas.{length-take_within}
use Rattle.wb_compose.specs.Attributes.{addition_of, additions_of}
use Rattle.wb_compose.specs.AttributeLaws.{all_rooted, host_rooted, with_host}
use Rattle.wb_certify.proofs.InRange.{grammar_of, in_range}
use Rattle.wb_certify.proofs.KeptLemmas.{start_same}
use Rattle.wb_certify.specs.Kept.{AreCertifiedBoth}
use Rattle.wb_compose.specs.Joined.{AreCertifiedApart, Extended}
use Rattle.wb_compose.specs.Written.{name_in}
use Rattle.wb_lemmas.proofs.Elements.{all_weaker}
use Rattle.wb_compose_theory_lists.proofs.PlacedLemmas.{after_below}
use Rattle.wb_compose_theory_lists.proofs.UnionLemmas.{is_united}
use Rattle.wb_compose_theory_lists.specs.Additions.{Addition, IsAddition, Rows, nothing}
use Rattle.wb_compose_theory_lists.specs.Joined.{Block, place_after}
use Rattle.wb_compose_theory_lists.specs.Laws.{AreAdded, each_alone, rooted}
use Rattle.wb_compose_theory_lists.specs.Numbers.{block_of}
use Rattle.wb_compose_theory_lists.specs.United.{host_numbers, united_attribution}
use Rattle.wb_operations.specs.Operations.{OperationSignature}
use Rattle.wb_syntax_resolved.specs.declared.resolved.ResolvedParts.{ResolvedParts}
use Rattle.wb_compose_theory_attributes.specs.Unions.{IsUnionOf}

module _ (host : ResolvedParts) (h : GrammarView) (operations : List OperationSignature) (extended : List Extended)
    (certified : AreCertifiedApart host h operations extended) (names : Differ (map (λ (e : Extended). name_in e.resolved) extended)) where
  abbrev rows : Rows
  rows = rows_of host h

  abbrev all : List Addition
  all = additions_of host h extended

  abbrev pub IsEach : Extended → Type 0
  IsEach e = AreCertifiedBoth host e.resolved h e.grammar operations

  of_rows : IsOfRows host h
  of_rows = is_of_rows host h (record {
    resolved = certified.host_resolved;
    alone = certified.host_certified.alone;
    grammar = certified.host_start;
  })

  -- the start keeps its number
  abbrev lead : List Addition → Block
  lead some = block_of rows some (λ (y : Addition). length y.rows.nonterminals) 0 nothing

  abbrev follow : List Addition → Block
  follow some = block_of rows some (λ (y : Addition). length y.rows.abstract_nonterminals) 0 nothing

  start_stays : (some : List Addition) → (host_numbers rows some).nonterminal h.start ≡ h.start
  start_stays some =
      let below = (in_range host h certified.host_resolved certified.host_start).start_below in
      let own = grammar_of host h certified.host_resolved certified.host_start in
      let count = length-take_within h.nonterminals host.attributes.nonterminals own.nonterminals_len in
      let less : h.start < length rows.nonterminals = omega (arith, below, count) in
      ap (place_after (length rows.nonterminals + (lead some).total + length rows.abstract_nonterminals) (follow some))
      (after_below (length rows.nonterminals) (lead some) h.start less)
      ∙ after_below (length rows.nonterminals + (lead some).total + length rows.abstract_nonterminals) (follow some) h.start
      (omega (arith, less))

  -- what extensions add is added
  names_are : map (λ (x : Addition). x.name) all ≡ map (λ (e : Extended). name_in e.resolved) extended
  names_are = map-map (λ (x : Addition). x.name) (addition_of host h) extended

  are_added : AreAdded rows all
  are_added = record {
    host_roles = of_rows.roles;
    host_once = of_rows.once;
    each = All-map IsAddition (addition_of host h) extended (all_weaker IsEach (λ e. IsAddition (addition_of host h e)) extended
        (λ e both. is_addition_of host h operations e both) certified.each);
    differ = subst Differ (sym names_are) names;
  }

  -- each is as it was tested
  host_is : rooted rows h.start [] ≡ host_rooted host h
  host_is = λ i. record { attributes = sym of_rows.are i; start = start_stays [] i }

  extension_is : (e : Extended) → IsEach e → rooted rows h.start (addition_of host h e ∷ []) ≡ with_host e
  extension_is e both = λ i. record { attributes = attributes_there i; start = start_there i } where
    attributes_there : united_attribution rows (addition_of host h e ∷ []) ≡ e.resolved.attributes
    attributes_there = sym (attributes_are host h operations e both)

    start_there : (host_numbers rows (addition_of host h e ∷ [])).nonterminal h.start ≡ e.grammar.start
    start_there =
        start_stays (addition_of host h e ∷ [])
        ∙ sym (start_same host e.resolved both.extends.spec both.extends.names both.host_resolved both.resolved h e.grammar both.host_start
        both.start)

  extensions_are : (es : List Extended) → All IsEach es → each_alone rows h.start (additions_of host h es) ≡ map with_host es
  extensions_are [] each = refl
  extensions_are (e ∷ es) each =
      ap (λ z. z ∷ each_alone rows h.start (additions_of host h es)) (extension_is e (All-head IsEach e es each))
      ∙ ap (λ z. with_host e ∷ z) (extensions_are es (All-tail IsEach e es each))

  all_is : rooted rows h.start all ≡ all_rooted host h extended
  all_is = λ i. record { attributes = united_attribution rows all; start = start_stays all i }

  pub union_is : IsUnionOf (host_rooted host h) (map with_host extended) (all_rooted host h extended)
  union_is =
      subst (λ z. IsUnionOf z (map with_host extended) (all_rooted host h extended)) host_is
      (subst (λ z. IsUnionOf (rooted rows h.start []) z (all_rooted host h extended)) (extensions_are extended certified.each)
      (subst (λ z. IsUnionOf (rooted rows h.start []) (each_alone rows h.start all) z) all_is (is_united rows h.start all are_added)))
