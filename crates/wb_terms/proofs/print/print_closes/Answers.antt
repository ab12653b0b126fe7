use Rattle.std.proofs.Common.{◌++◌, arith}
use Rattle.wb_terms.specs.Inner.Pending.{closing}
use Rattle.wb_terms.proofs.PendingLemmas.{more_closes}
use Rattle.wb_terms.proofs.print.print_closes.Goals as goal

pub many-preserved : goal.many-preserved
many-preserved c =
    more_closes (c.args.out.now.items ++ closing c.args.closes) c.many.out.items c.print_few.new.out.items c.many.left
    (omega (arith, c.many-test.true)) c.in_ok-print_few.ensures c.many.invariant
