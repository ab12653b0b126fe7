-- Conflicts of tables, shown at prefixes.
use Rattle.std.proofs.Common.{ℕ, List, inl, inr, arith}
use Rattle.wb_base.specs.declared.symbol.Symbol.{Symbol}
use Rattle.wb_base.specs.Grammar.{GrammarView}
use Rattle.wb_grammar_theory.specs.Productions.{top_of}
use Rattle.wb_grammar_theory.specs.Lookaheads.{HasConflict}
use Rattle.wb_items.specs.Kernels.{KernelsView, prefix_of}
use Rattle.wb_lookahead.specs.declared.action.Action.{Action}
use Rattle.wb_lookahead.specs.declared.action.Action.TheVariants as act
use Rattle.wb_lookahead.specs.declared.action.Action.TheVariants.{Shift, Reduce, Accept}
use Rattle.wb_lookahead.specs.Tables.{Stands, IsConflict, ComesBefore}
use Rattle.wb_determinism_contexts.specs.Conflicts.{CanAct, IsConflictAt}

-- an action that is in tables can be taken
pub can_act : (kernels : KernelsView) (s t : ℕ) (action : Action) → Stands kernels s t action
    → CanAct kernels.grammar (prefix_of kernels s) t action
can_act kernels s t (Shift n) stands = stands.0
can_act kernels s t (Reduce p) stands = stands
can_act kernels s t Accept stands = stands
can_act kernels s t act.None stands = absurd stands

-- a conflict of tables is one at the kernel's prefix
pub conflict_at : (kernels : KernelsView) (s t : ℕ) (first second : Action) → IsConflict kernels s t first second
    → IsConflictAt kernels.grammar (prefix_of kernels s) t first second
conflict_at kernels s t first second is = record {
  terminal = is.terminal;
  first_can = can_act kernels s t first is.first_stands;
  second_can = can_act kernels s t second is.second_stands;
  in_order = is.in_order;
}

-- a conflict that is shown is one
pub shown_conflict : (g : GrammarView) (prefix : List Symbol) (t : ℕ) (first second : Action) → IsConflictAt g prefix t first second
    → HasConflict g prefix t
shown_conflict g prefix t first second is = both first second is.first_can is.second_can is.in_order
  where
    both : (one other : Action) → CanAct g prefix t one → CanAct g prefix t other → ComesBefore one other → HasConflict g prefix t
    both (Shift n) (Reduce q) one other order = inl (q, one, other.1)
    both (Shift n) Accept one other order = inl (top_of g, one, other)
    both (Shift n) (Shift m) one other order = absurd order
    both (Shift n) act.None one other order = absurd order
    both (Reduce p) (Reduce q) one other order = inr (p, q, (λ same. omega (arith, order, same)), one.1, other.1)
    both (Reduce p) Accept one other order = inr (p, top_of g, (λ same. omega (arith, one.0, same)), one.1, other)
    both (Reduce p) (Shift m) one other order = absurd order
    both (Reduce p) act.None one other order = absurd order
    both Accept other one two order = absurd order
    both act.None other one two order = absurd order
