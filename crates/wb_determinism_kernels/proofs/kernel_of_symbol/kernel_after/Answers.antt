use Rattle.std.proofs.Common.{arith}
use Rattle.std.proofs.lemmas.List.{length-map}
use Rattle.wb_determinism_kernels.specs.declared.advance.Advance.{Advance}
use Rattle.wb_determinism_kernels.specs.Inner.Advances.{items_of}
use Rattle.wb_items.proofs.OrderLemmas.{strict_start, strict_done}
use Rattle.wb_determinism_kernels.proofs.kernel_of_symbol.kernel_after.Goals as goal

pub places-init : goal.places-init
places-init c = rw c.new-kernel.ensures.items (strict_start (items_of c.args.run.now))

pub returns-clause-same : goal.returns-clause-same
returns-clause-same c = rw c.from_vec.ensures
    (strict_done (items_of c.args.run.now) c.places.kernel.items c.places.place
    (omega (arith, length-map c.args.run.now (λ (a : Advance). a.item))) c.places.invariant)
