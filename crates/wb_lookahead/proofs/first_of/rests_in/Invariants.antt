use Rattle.std.proofs.Common.{◌≡◌, ℕ, ◌+◌, Some, length, drop}
use Rattle.std.specs.Prelude.{slice_get}
use Rattle.wb_base.specs.declared.symbol.Symbol.{Symbol}
use Rattle.wb_lookahead.specs.declared.first_of.Rest.{Rest}
use Rattle.wb_lookahead.specs.Inner.Rests.{IsOpening}
use Rattle.wb_lookahead.proofs.first_of.rests_in.Given as goal

abbrev pub invariant-places : goal.invariant-places
invariant-places l = record {
  len : length l.row.items ≡ l.place;
  each : (d : ℕ) (rest : Rest) (x : Symbol) → slice_get l.row.items d ≡ Some rest → slice_get l.right d ≡ Some x →
      IsOpening l.grammar x (drop (d + 1) l.right) rest;
}
