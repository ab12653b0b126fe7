use Rattle.wb_generate.specs.Inner.Choices.{is_between}
use Rattle.wb_generate.proofs.LoopLemmas.{counted, counted_most}
use Rattle.wb_generate.proofs.choose.count.Goals as goal

pub numbers-preserved : goal.numbers-preserved
numbers-preserved c = (
  counted (is_between c.args.totals.now c.args.low c.args.high) c.args.numbers.now c.numbers.number-index _ c.numbers.many
      c.next_count-many.result c.is_within.result c.numbers-test.true c.is_within.ensures c.next_count-many.ensures c.numbers.invariant.0,
  counted_most c.numbers.number-index c.numbers.many c.next_count-many.result c.is_within.result c.next_count-many.ensures
      c.numbers.invariant.1,
)
