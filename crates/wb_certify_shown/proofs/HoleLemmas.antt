-- A name of a grammar with holes is one of the grammar or one of a hole.
use Rattle.std.proofs.Common.{◌≡◌, ◌<◌, ◌≤◌, ◌+◌, ◌-◌, ◌++◌, [], ℕ, List, Some, None, map, take, length, slice_get, ap, sym, ◌∙◌, arith}
use Rattle.std.specs.Prelude.{Option, option_map, IfSome}
use Rattle.std.proofs.lemmas.List.{length-take-le, length-map}
use Rattle.std.proofs.lemmas.Option.{slice_get-map}
use Rattle.wb_base.specs.Grammar.{GrammarView}
use Rattle.wb_lemmas.proofs.Places.{at_take, at_within, append_before, append_after}
use Rattle.wb_syntax_resolved.specs.declared.resolved.ResolvedParts.{ResolvedParts}
use Rattle.wb_syntax_resolved.specs.Grammar.{IsGrammarOf}
use Rattle.wb_syntax_resolved.specs.Resolved.{IsResolved}
use Rattle.wb_names_theory.specs.Declares.{name_in}
use Rattle.wb_certify_shown.specs.Names.{terminals_in, productions_in, or_end, terminal_name, production_name, hole_name, terminal_shown}
use Rattle.wb_certify_shown.specs.Names.{production_shown, lookahead_shown, reduction_shown}

-- a list, of which so many are the grammar's, and what has holes
module _ {A B : Type 0} (f : A → List ℕ) (h : B → List ℕ) (xs : List A) (ys : List B) (n : ℕ) (few : n ≤ length xs) where
  abbrev names : List (List ℕ)
  names = map f (take n xs) ++ map h ys

  count : length (map f (take n xs)) ≡ n
  count = length-map (take n xs) f ∙ length-take-le n xs few

  -- a number of the grammar
  pub name_before : (k : ℕ) → k < n → (x : A) × (slice_get xs k ≡ Some x) × (slice_get names k ≡ Some (f x))
  name_before k below =
      let inside = length-take-le n xs few in
      let found = at_within (take n xs) k (omega (arith, below, inside)) in
      let own = count in (
        found.0,
        (at_take xs n k found.0 found.1).1,
        append_before (map f (take n xs)) (map h ys) k (omega (arith, below, own))
            ∙ (slice_get-map f (take n xs) k ∙ ap (option_map f) found.1),
      )

  -- a number of a hole, or none
  pub name_after : (k : ℕ) → n ≤ k → slice_get names k ≡ option_map h (slice_get ys (k - n))
  name_after k above =
      let own = count in
      let place : k ≡ length (map f (take n xs)) + (k - n) = omega (arith, above, own) in
      ap (slice_get names) place ∙ (append_after (map f (take n xs)) (map h ys) (k - n) ∙ slice_get-map h ys (k - n))

-- a grammar has no more terminals and productions than there are rows
terminals_few : (r : ResolvedParts) (g : Option GrammarView) → IfSome g (IsGrammarOf r) → terminals_in g ≤ length r.terminals
terminals_few r None is = omega arith
terminals_few r (Some g) is = is.terminals_len

productions_few : (r : ResolvedParts) (g : Option GrammarView) → IfSome g (IsGrammarOf r)
    → productions_in g ≤ length r.attributes.productions
productions_few r None is = omega arith
productions_few r (Some g) is = is.productions_len

pub few_terminals : (r : ResolvedParts) → IsResolved r → terminals_in r.grammar ≤ length r.terminals
few_terminals r is = terminals_few r r.grammar is.numbered.grammar

pub few_productions : (r : ResolvedParts) → IsResolved r → productions_in r.grammar ≤ length r.attributes.productions
few_productions r is = productions_few r r.grammar is.numbered.grammar

module _ (r : ResolvedParts) (is : IsResolved r) (k : ℕ) where
  -- a terminal of the grammar
  pub lookahead_before : k < terminals_in r.grammar → terminal_shown r k ≡ lookahead_shown r k
  lookahead_before below =
      let found = name_before (terminal_name r) (hole_name r) r.terminals r.extensible (terminals_in r.grammar) (few_terminals r is) k below in
      ap (name_in (terminal_name r)) found.1 ∙ sym (ap or_end found.2)

  -- that of a hole, and the end of a text
  lookahead_at : terminals_in r.grammar ≤ k → (o : Option ℕ) → slice_get r.extensible (k - terminals_in r.grammar) ≡ o
      → or_end (option_map (hole_name r) o) ≡ lookahead_shown r k
  lookahead_at above o at =
      sym (ap or_end (name_after (terminal_name r) (hole_name r) r.terminals r.extensible (terminals_in r.grammar) (few_terminals r is) k above
      ∙ ap (option_map (hole_name r)) at))

  pub lookahead_hole : terminals_in r.grammar ≤ k → (n : ℕ) → slice_get r.extensible (k - terminals_in r.grammar) ≡ Some n
      → hole_name r n ≡ lookahead_shown r k
  lookahead_hole above n at = lookahead_at above (Some n) at

  pub lookahead_end : terminals_in r.grammar ≤ k → slice_get r.extensible (k - terminals_in r.grammar) ≡ None
      → or_end None ≡ lookahead_shown r k
  lookahead_end above at = lookahead_at above None at

  -- a production of the grammar
  pub reduction_before : k < productions_in r.grammar → production_shown r k ≡ reduction_shown r k
  reduction_before below =
      let found = name_before (production_name r) (hole_name r) r.attributes.productions r.extensible (productions_in r.grammar)
      (few_productions r is) k below in
      ap (name_in (production_name r)) found.1 ∙ sym (ap (name_in (λ (name : List ℕ). name)) found.2)

  reduction_at : productions_in r.grammar ≤ k → (o : Option ℕ) → slice_get r.extensible (k - productions_in r.grammar) ≡ o
      → name_in (λ (name : List ℕ). name) (option_map (hole_name r) o) ≡ reduction_shown r k
  reduction_at above o at =
      sym (ap (name_in (λ (name : List ℕ). name)) (name_after (production_name r) (hole_name r) r.attributes.productions r.extensible
      (productions_in r.grammar) (few_productions r is) k above ∙ ap (option_map (hole_name r)) at))

  -- that of a hole, and none
  pub reduction_hole : productions_in r.grammar ≤ k → (n : ℕ) → slice_get r.extensible (k - productions_in r.grammar) ≡ Some n
      → hole_name r n ≡ reduction_shown r k
  reduction_hole above n at = reduction_at above (Some n) at

  pub reduction_none : productions_in r.grammar ≤ k → slice_get r.extensible (k - productions_in r.grammar) ≡ None
      → [] ≡ reduction_shown r k
  reduction_none above at = reduction_at above None at
