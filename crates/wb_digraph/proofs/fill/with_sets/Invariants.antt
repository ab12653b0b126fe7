use Rattle.std.proofs.Common.{◌≡◌, ◌++◌}
use Rattle.std.specs.Vec.Iter.{into_iter_items}
use Rattle.wb_items.specs.Lookaheads.{AreLookaheadsOf}
use Rattle.wb_digraph.specs.Inner.Filling.{HoldsSets}
use Rattle.wb_digraph.proofs.fill.with_sets.Given as goal

abbrev pub invariant-loop-set : goal.invariant-loop-set
invariant-loop-set l = (l.fn.sets.items ≡ l.yielded ++ into_iter_items l.set-iterator) × AreLookaheadsOf l.fn.context.kernels.now l.lookaheads ×
    HoldsSets l.yielded l.lookaheads
