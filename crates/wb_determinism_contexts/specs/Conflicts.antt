-- What a parser may do at a prefix, and conflicts of two such actions.
use Rattle.std.specs.Prelude.{◌<◌, ◌≤◌, ℕ, List, length}
use Rattle.wb_base.specs.declared.symbol.Symbol.{Symbol}
use Rattle.wb_base.specs.Grammar.{GrammarView}
use Rattle.wb_grammar_theory.specs.Productions.{top_of, end_of}
use Rattle.wb_grammar_theory.specs.Lookaheads.{CanShift, CanReduce}
use Rattle.wb_lookahead.specs.declared.action.Action.{Action}
use Rattle.wb_lookahead.specs.declared.action.Action.TheVariants as act
use Rattle.wb_lookahead.specs.declared.action.Action.TheVariants.{Shift, Reduce, Accept}
use Rattle.wb_lookahead.specs.Tables.{ComesBefore}

-- the action can be taken at the prefix on the terminal: to shift it, wherever that leads; to reduce by a production of the grammar; or to
-- accept, which is to reduce by `S' -> S`
abbrev pub CanAct : GrammarView → List Symbol → ℕ → Action → Type 0
CanAct g prefix t (Shift _) = CanShift g prefix t
CanAct g prefix t (Reduce p) = (p < length g.productions) × CanReduce g prefix p t
CanAct g prefix t Accept = CanReduce g prefix (top_of g) t
CanAct g prefix t act.None = ⊥

-- two actions can be taken at the prefix on the terminal, or on the end of a text: a shift and a reduction, or two reductions, by order of
-- their productions
pub record IsConflictAt (g : GrammarView) (prefix : List Symbol) (t : ℕ) (first second : Action) : Type 0 where
  pub terminal : t ≤ end_of g
  pub first_can : CanAct g prefix t first
  pub second_can : CanAct g prefix t second
  pub in_order : ComesBefore first second
