use Rattle.std.proofs.Common.{sym, ◌∙◌}
use Rattle.std.proofs.lemmas.Bool.{true≢false}
use Rattle.wb_generate.specs.Inner.Choices.{is_between}
use Rattle.wb_generate.proofs.LoopLemmas.{counted, counted_most, found_at, passed_most}
use Rattle.wb_generate.proofs.choose.find.Goals as goal

pub returns-then-is_found : goal.returns-then-is_found
returns-then-is_found c =
    let found = c.is_found.ensures.0 c.if-is_found.true in
    found_at (is_between c.args.totals.now c.args.low c.args.high) c.args.numbers.now c.numbers.number-index _ c.args.wanted
    c.is_within-may.result c.numbers-test.true c.is_within-may.ensures found.0 (sym found.1 ∙ c.numbers.invariant.0)

pub numbers-preserved : goal.numbers-preserved
numbers-preserved c = (
  counted (is_between c.args.totals.now c.args.low c.args.high) c.args.numbers.now c.numbers.number-index _ c.numbers.passed
      c.next_count-passed.result c.is_within-may.result c.numbers-test.true c.is_within-may.ensures c.next_count-passed.ensures
      c.numbers.invariant.0,
  passed_most c.numbers.passed c.args.wanted c.next_count-passed.result c.is_within-may.result c.next_count-passed.ensures
      c.numbers.invariant.1
      (λ h. true≢false (sym (c.is_found.ensures.1 h) ∙ c.if-is_found.false)),
  counted_most c.numbers.number-index c.numbers.passed c.next_count-passed.result c.is_within-may.result c.next_count-passed.ensures
      c.numbers.invariant.2,
)
