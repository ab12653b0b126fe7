use Rattle.std.proofs.Common.{◌≡◌}
use Rattle.wb_automata_positions.specs.Inner.Closures.{Adds}
use Rattle.wb_automata_positions.specs.Transitions.{IsLeaf}
use Rattle.wb_automata_positions.proofs.ClosureLemmas.{OfFirst}
use Rattle.wb_automata_positions.proofs.closure.add_leaves.Given as goal

abbrev pub invariant-loop-q : goal.invariant-loop-q
invariant-loop-q l = Adds (OfFirst (λ from d. IsLeaf l.nodes from × (d ≡ from)) l.met l.q-index) l.fn.all l.all
