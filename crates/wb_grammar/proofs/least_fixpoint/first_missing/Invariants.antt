use Rattle.std.specs.Prelude.{All}
use Rattle.std.proofs.Common.{take}
use Rattle.wb_grammar.specs.Inner.LeastSets.{Holds}
use Rattle.wb_grammar.proofs.least_fixpoint.first_missing.Given as goal

abbrev pub invariant-places : goal.invariant-places
invariant-places l = All (Holds l.terminals l.set) (take l.place l.symbols)
