use Rattle.std.proofs.Common.{take}
use Rattle.wb_generate.specs.Inner.Lowerings.{Settles, state_of}
use Rattle.wb_generate.proofs.counts.Lowering.lower_all.Given as goal

abbrev pub invariant-productions : goal.invariant-productions
invariant-productions l = Settles l.grammar 100001 (take l.production-index l.productions) (state_of l.fn.self) (state_of l.self)
