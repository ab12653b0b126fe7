use Rattle.std.proofs.Common.{◌≡◌, take, []}
use Rattle.wb_automata.specs.Inner.Pairs.{Adds, Any}
use Rattle.wb_automata.proofs.walk.met_starts.Given as goal

abbrev pub invariant-loop-pair : goal.invariant-loop-pair
invariant-loop-pair l = Adds (Any (take l.pair-index l.pairs) (λ c d. d ≡ c)) l.fn.met [] l.met l.next
