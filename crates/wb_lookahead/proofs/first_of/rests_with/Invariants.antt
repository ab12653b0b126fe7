use Rattle.std.proofs.Common.{◌≡◌, ℕ, List, Some, length}
use Rattle.std.specs.Prelude.{slice_get}
use Rattle.wb_base.specs.declared.symbol.Symbol.{Symbol}
use Rattle.wb_grammar_theory.specs.Productions.{IsProduction}
use Rattle.wb_lookahead.specs.declared.first_of.Rest.{Rest}
use Rattle.wb_lookahead.specs.Inner.Rests.{AreRestsOf}
use Rattle.wb_lookahead.proofs.first_of.rests_with.Given as goal

abbrev pub invariant-productions : goal.invariant-productions
invariant-productions l = record {
  len : length l.rests.items ≡ l.production;
  each : (p a : ℕ) (right : List Symbol) (row : List Rest) → slice_get l.rests.items p ≡ Some row → IsProduction l.grammar p a right →
      AreRestsOf l.grammar right row;
}
