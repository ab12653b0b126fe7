use Rattle.wb_determinism.proofs.ApartLemmas.{takes_set}
use Rattle.wb_determinism.proofs.apart.take_set.Goals as goal

pub returns : goal.returns
returns c apart =
    takes_set c.args.set.now c.args.taken.now c.union_with.new.self (λ meets. let bad = c.if-intersects.ensures.1 meets in cc)
    c.union_with.ensures.after
