-- What is shown as a conflict is one of the grammar, and where there are tables there is none.
use Rattle.std.proofs.Common.{◌≢◌, ℕ, ◌<◌, sym, ◌∙◌, inl, inr, arith}
use Rattle.wb_grammar_theory.specs.Productions.{top_of}
use Rattle.wb_grammar_theory.specs.Lookaheads.{HasConflict, HasNoConflict}
use Rattle.wb_items.specs.Kernels.{KernelsView, prefix_of}
use Rattle.wb_lookahead.specs.declared.action.Action.{Action}
use Rattle.wb_lookahead.specs.declared.action.Action.TheVariants as act
use Rattle.wb_lookahead.specs.declared.action.Action.TheVariants.{Shift, Reduce, Accept}
use Rattle.wb_lookahead.specs.Contents.{TablesView}
use Rattle.wb_lookahead.specs.Tables.{AreTables, AreValidSets, IsConflict}

-- a conflict at a kernel is one at its prefix
pub conflict_has : (kernels : KernelsView) (s t : ℕ) (a b : Action) → IsConflict kernels s t a b →
    HasConflict kernels.grammar (prefix_of kernels s) t
conflict_has kernels s t (Shift n) (Reduce q) c = inl (q, c.first_stands.0, c.second_stands.1)
conflict_has kernels s t (Shift n) Accept c = inl (top_of kernels.grammar, c.first_stands.0, c.second_stands)
conflict_has kernels s t (Reduce p) (Reduce q) c =
    (let lt : p < q = c.in_order in let ne : p ≢ q = λ e. omega arith in inr (p, q, ne, c.first_stands.1, c.second_stands.1))
conflict_has kernels s t (Reduce p) Accept c = (let lt : p < top_of kernels.grammar = c.first_stands.0 in
    let ne : p ≢ top_of kernels.grammar = λ e. omega arith in inr (p, top_of kernels.grammar, ne, c.first_stands.1, c.second_stands))
conflict_has kernels s t (Shift n) (Shift m) c = absurd c.in_order
conflict_has kernels s t (Shift n) act.None c = absurd c.in_order
conflict_has kernels s t (Reduce p) (Shift m) c = absurd c.in_order
conflict_has kernels s t (Reduce p) act.None c = absurd c.in_order
conflict_has kernels s t Accept b c = absurd c.in_order
conflict_has kernels s t act.None b c = absurd c.in_order

-- a grammar without conflict has none at any kernel
pub no_conflict_shown : {kernels : KernelsView} → HasNoConflict kernels.grammar → (s t : ℕ) (a b : Action) → ¬ IsConflict kernels s t a b
no_conflict_shown {kernels} clear s t a b c = clear (prefix_of kernels s) t (conflict_has kernels s t a b c)

-- tables have the valid terminals of each kernel
pub valid_of_tables : {kernels : KernelsView} {tables : TablesView} → AreTables kernels tables → AreValidSets kernels tables.valid
valid_of_tables tables = record { len = tables.count; each = tables.valid }

-- where there are tables, nothing shown is a conflict
pub tables_refute : {kernels : KernelsView} {tables : TablesView} → AreTables kernels tables → (s t : ℕ) (a b : Action) →
    IsConflict kernels s t a b → ⊥
tables_refute tables s t a b c =
    let only = (tables.actions s t c.state c.terminal).only in
    c.different (only a c.first_stands ∙ sym (only b c.second_stands))
