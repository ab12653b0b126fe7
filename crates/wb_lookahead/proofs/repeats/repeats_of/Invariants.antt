use Rattle.wb_lookahead.specs.Inner.Rests.{AreRepeats}
use Rattle.wb_lookahead.proofs.repeats.repeats_of.Given as goal

abbrev pub invariant-productions : goal.invariant-productions
invariant-productions l = AreRepeats l.grammar l.sets.items
