use Rattle.std.proofs.Common.{◌+◌, arith}
use Rattle.std.proofs.lemmas.Option.{slice_get_within}
use Rattle.wb_items.proofs.InOrderLemmas.{adjacent_order}
use Rattle.wb_items.proofs.compare.are_in_order.Goals as goal

pub returns : goal.returns
returns c _ = adjacent_order c.args.items.now (λ k a b at at'. c.places.invariant k a b (let lt =
    slice_get_within c.args.items.now (k + 1) b at' in omega (arith, lt)) at at')
