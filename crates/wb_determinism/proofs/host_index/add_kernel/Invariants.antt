use Rattle.wb_determinism.specs.Inner.Index.{IsIndexUpTo}
use Rattle.wb_determinism.proofs.host_index.add_kernel.Given as goal

abbrev pub invariant-items : goal.invariant-items
invariant-items l = IsIndexUpTo l.host l.state l.item-items l.item-index l.index.items
