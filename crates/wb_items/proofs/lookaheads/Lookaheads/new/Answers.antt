use Rattle.wb_items.proofs.KernelNumbers.{numbered_all}
use Rattle.wb_items.proofs.lookaheads.Lookaheads.new.Goals as goal

pub returns-clause-apart : goal.returns-clause-apart
returns-clause-apart c =
    (numbered_all c.args.kernels.now c.in_ok-numbers.numbers.items c.numbers_apart.new.made c.in_ok-items.items.items
    c.in_ok-numbers.ensures c.in_ok-items.ensures.is).1
