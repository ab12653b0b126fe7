use Rattle.std.proofs.Common.{◌≡◌, ℕ, List, Some, length}
use Rattle.std.specs.Prelude.{slice_get}
use Rattle.wb_base.specs.declared.symbol.Symbol.{Symbol}
use Rattle.wb_grammar_theory.specs.Productions.{IsProduction}
use Rattle.wb_determinism_lookaheads.specs.declared.rests.Rest.{Rest}
use Rattle.wb_determinism_lookaheads.specs.Inner.Rests.{AreRestsOf}
use Rattle.wb_determinism_lookaheads.proofs.rests.rests_of.Given as goal

abbrev pub invariant-productions : goal.invariant-productions
invariant-productions l = record {
  len : length l.rests.items ≡ l.production;
  each : (p a : ℕ) (right : List Symbol) (row : List Rest) → slice_get l.rests.items p ≡ Some row → IsProduction l.grammar p a right →
      AreRestsOf l.grammar right row;
}
