use Rattle.std.proofs.Common.{take}
use Rattle.wb_automata.specs.Inner.Pairs.{Adds, Any, IsAfter}
use Rattle.wb_automata.proofs.walk.meet_after.Given as goal

abbrev pub invariant-loop-pair : goal.invariant-loop-pair
invariant-loop-pair l = Adds (Any (take l.pair-index l.pairs) (IsAfter l.places l.byte)) l.fn.met l.fn.next l.met l.next
