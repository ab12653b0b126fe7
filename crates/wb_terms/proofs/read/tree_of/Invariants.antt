use Rattle.std.proofs.Common.{◌≡◌, List, ◌++◌, reverse, take}
use Rattle.wb_values.specs.Tree.{Tree}
use Rattle.wb_terms.specs.Inner.Holding.{Holds}
use Rattle.wb_terms.proofs.read.tree_of.Given as goal

abbrev pub invariant-loop-event : goal.invariant-loop-event
invariant-loop-event l =
    Holds l.signatures l.store (reverse (take l.event-index l.events)) l.builder ×
    ((more : List Tree) × (l.store ≡ l.initial.store ++ more))
