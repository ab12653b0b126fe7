-- A nonterminal before a form is removed or replaced, as the next state has it.
use Rattle.std.proofs.Common.{◌≡◌, ℕ, ◌+◌, ◌-◌, ◌<◌, ◌≤◌, Bool, true, false, List, ◌++◌, length, sym, ◌∙◌, ap, subst, arith, Some}
use Rattle.std.specs.Prelude.{IfSome, ◌↔◌, ◌==◌, slice_get, slice_index}
use Rattle.std.proofs.lemmas.Bool.{eq-eqb, eqb-true, true≢false}
use Rattle.std.proofs.lemmas.List.{length-map}
use Rattle.std.proofs.lemmas.List.Elements.{All-head}
use Rattle.wb_base.specs.declared.symbol.Symbol.{Symbol}
use Rattle.wb_base.specs.declared.symbol.Symbol.TheVariants.{Nonterminal}
use Rattle.wb_base.specs.Grammar.{GrammarView, IsSymbolBelow}
use Rattle.wb_grammar_theory.specs.Productions.{IsProduction}
use Rattle.wb_grammar_theory.proofs.ProductionLemmas.{production_within}
use Rattle.wb_lemmas.proofs.Booleans.{is_false}
use Rattle.wb_generate.specs.Counts.{total}
use Rattle.wb_generate.specs.Draws.{draw, upper, IsChosen}
use Rattle.wb_generate.specs.Inner.Choices.{AreChoices, number_of}
use Rattle.wb_generate.specs.Inner.Groups.{group_at}
use Rattle.wb_generate.specs.Inner.Runs.{replaced_by, taken, without}
use Rattle.wb_generate.specs.Inner.States.{State, before, IsFit}
use Rattle.wb_generate.specs.declared.choices.Choices.{Choices}
use Rattle.wb_generate.proofs.ChoiceLemmas.{chosen_low}
use Rattle.wb_generate.proofs.RoomLemmas.{chosen_number, chosen_total}

-- the production that a number chooses, and its right side
pub record ChosenRule (g : GrammarView) (choices : Choices) (a spare r p : ℕ) : Type 0 where
  pub right : List Symbol
  pub rule : IsProduction g p a right
  pub chosen : IsChosen g choices.counts.items a spare r right
  pub low : total choices.counts.items right ≤ spare + slice_index choices.counts.items a
  pub sum : slice_index choices.totals.items p ≡ total choices.counts.items right

module _ (g : GrammarView) (choices : Choices) (are : AreChoices g 100001 choices) (a : ℕ) (s : State)
    (fit : IsFit g choices.counts.items 100000 (before (Nonterminal a) s)) where
  abbrev counts : List ℕ
  counts = choices.counts.items

  pub is_below : a < g.nonterminals
  is_below = All-head (IsSymbolBelow g.terminals g.nonterminals) (Nonterminal a) s.form fit.known

  pub is_few : s.spare + slice_index counts a ≤ 100000
  is_few = let few : s.spare + (slice_index counts a + total counts s.form) ≤ 100000 = fit.few in omega (arith, few)

  pub is_counted : a < length counts
  is_counted = omega (arith, is_below, are.least.len)

  pub is_grouped : a < length choices.rules.items
  is_grouped = omega (arith, is_below, are.rules.len)

  below_limit : s.spare + slice_index counts a < 100001
  below_limit = omega (arith, is_few)

  pub rule_at : (r p : ℕ) → number_of choices.totals.items (slice_index counts a) s.spare (group_at choices.rules.items a) r ≡ Some p →
      ChosenRule g choices a s.spare r p
  rule_at r p is =
      let found = chosen_number g 100001 choices are a s.spare is_below below_limit r p is in
      let low = chosen_low g counts a s.spare r found.0 found.2 in
      record {
        right = found.0;
        rule = found.1;
        chosen = found.2;
        low = low;
        sum = chosen_total g 100001 choices are a s.spare is_below below_limit p found.0 found.1 low;
      }

  pub in_productions : (r p : ℕ) → ChosenRule g choices a s.spare r p → p < length g.productions
  in_productions r p rule = production_within g p a rule.right rule.rule

  pub in_totals : (r p : ℕ) → ChosenRule g choices a s.spare r p → p < length choices.totals.items
  in_totals r p rule =
      let e : length choices.totals.items ≡ length g.productions = ap length are.totals ∙ length-map g.productions _ in
      let lt = production_within g p a rule.right rule.rule in
      omega (arith, e, lt)

  -- no leaf is to spare, and none is needed
  pub taken_over : s.spare + slice_index counts a ≡ 0 → s ≡ taken g counts (Nonterminal a) s
  taken_over none = sym (ap (λ b. without g counts a b s) (eq-eqb (s.spare + slice_index counts a) 0 none))

  -- the right side is in the place of the nonterminal
  pub taken_by : (u : State) (r p least sum : ℕ) (over : Bool) (right : List Symbol) → (over ≡ true) ↔ (s.spare + least ≡ 0) → over ≡ false →
      least ≡ slice_index counts a → sum ≡ slice_index choices.totals.items p → r ≡ upper (draw s.number) →
      (rule : ChosenRule g choices a s.spare r p) → right ≡ rule.right → u.form ≡ right ++ s.form → u.spare ≡ s.spare - (sum - least) →
      u.number ≡ draw s.number → u.made ≡ s.made → u ≡ taken g counts (Nonterminal a) s
  taken_by u r p least sum over right test fails least_is sum_is r_is rule right_is form spare number made =
      let some : (s.spare + slice_index counts a == 0) ≡ false =
      is_false (s.spare + slice_index counts a == 0)
      (λ e. true≢false (sym (test.1 (ap (λ z. s.spare + z) least_is ∙ eqb-true (s.spare + slice_index counts a) 0 e)) ∙ fails)) in
      let chosen : IsChosen g counts a s.spare (upper (draw s.number)) rule.right =
      subst (λ z. IsChosen g counts a s.spare z rule.right) r_is rule.chosen in
      let e : taken g counts (Nonterminal a) s ≡ replaced_by g counts a (Some (a, rule.right)) s =
      ap (λ b. without g counts a b s) some ∙ ap (λ o. replaced_by g counts a o s) chosen in
      let new_form : u.form ≡ rule.right ++ s.form = form ∙ ap (λ z. z ++ s.form) right_is in
      let total_is : sum ≡ total counts rule.right = sum_is ∙ rule.sum in
      let new_spare : u.spare ≡ s.spare - (total counts rule.right - slice_index counts a) =
      spare ∙ (λ j. s.spare - (total_is j - least_is j)) in
      let f : u ≡ replaced_by g counts a (Some (a, rule.right)) s =
      λ j. record { form = new_form j; spare = new_spare j; number = number j; made = made j } in
      f ∙ sym e

-- the right side as it is read
pub right_read : (g : GrammarView) (a p : ℕ) (right read : List Symbol) → IsProduction g p a right →
    IfSome (slice_get g.productions p) (λ rule. read ≡ rule.1) → read ≡ right
right_read g a p right read rule is = subst (λ o. IfSome o (λ rule. read ≡ rule.1)) rule is
