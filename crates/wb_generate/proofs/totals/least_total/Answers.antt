use Rattle.std.proofs.Common.{arith}
use Rattle.wb_generate.proofs.CountLemmas.{stopped_step}
use Rattle.wb_generate.proofs.totals.least_total.Goals as goal

pub symbols-preserved : goal.symbols-preserved
symbols-preserved c = stopped_step c.args.counts.now c.args.symbols.now c.symbols.place c.symbols.sum c.least_count.result
    c.stopped-sum.result 100001 _
    (omega arith) c.symbols.invariant c.least_count.ensures c.stopped-sum.ensures
