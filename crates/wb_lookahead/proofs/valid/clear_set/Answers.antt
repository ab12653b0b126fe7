use Rattle.wb_lookahead.specs.Inner.Valid.{AreSetsOf}
use Rattle.wb_lookahead.proofs.ValidLemmas.{union_clear}
use Rattle.wb_lookahead.proofs.valid.clear_set.Goals as goal

pub returns-then-are_apart : goal.returns-then-are_apart
returns-then-are_apart c =
    let are : AreSetsOf c.args.kernels.now c.args.state c.are_apart.new.sets = c.are_apart.ensures.apart c.if-are_apart.true in
    union_clear c.requires.kernels c.requires.state c.are_apart.new.sets c.union_of.result are c.union_of.ensures
