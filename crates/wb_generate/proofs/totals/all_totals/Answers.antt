use Rattle.std.proofs.Common.{arith}
use Rattle.wb_generate.proofs.RoomLemmas.{totals_more}
use Rattle.wb_generate.proofs.totals.all_totals.Goals as goal

pub productions-preserved : goal.productions-preserved
productions-preserved c =
    totals_more 100001 c.args.counts.now c.args.grammar.now.productions c.productions.production c.least_total.result c.right.result.now
    c.productions.totals.items c.push.new.list.items (omega arith) c.right.ensures.right c.least_total.ensures c.productions.invariant
    c.in_ok-push.ensures.ok
