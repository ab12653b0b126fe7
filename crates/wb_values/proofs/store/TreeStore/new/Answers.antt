use Rattle.std.proofs.Common.{refl}
use Rattle.wb_values.specs.Trees.{trees_of, grown}
use Rattle.wb_values.proofs.store.TreeStore.new.Goals as goal

pub returns : goal.returns
unfolding trees_of grown
returns c = rw c.new.ensures.items refl
