use Rattle.std.proofs.Common.{arith}
use Rattle.wb_lemmas.proofs.Members.{contains_at}
use Rattle.wb_recheck_entries.proofs.UnlistedLemmas.{numbers_done, numbers_more}
use Rattle.wb_recheck_entries.proofs.opened.lacks_one.Goals as goal

pub returns-then-lacks : goal.returns-then-lacks
returns-then-lacks c = record {
  production = c.number_at.result;
  within = contains_at c.args.numbers.now c.number_at.result c.numbers.place c.number_at.ensures;
  unlisted = c.if-lacks.ensures;
}

pub numbers-preserved : goal.numbers-preserved
numbers-preserved c =
    numbers_more c.args.keys.now c.args.kernel c.args.numbers.now c.args.terminal c.numbers.place c.number_at.result c.numbers.invariant
    c.number_at.ensures c.if-lacks.ensures

pub returns : goal.returns
returns c =
    numbers_done c.args.keys.now c.args.kernel c.args.numbers.now c.args.terminal c.numbers.place c.numbers.invariant
    (let past = c.numbers-test.false in omega (arith, past))
