use Rattle.std.proofs.Common.{arith}
use Rattle.wb_recheck_entries.proofs.RestLemmas.{rest_here, no_rest, no_rest_past}
use Rattle.wb_recheck_entries.proofs.begins.rest_after.Goals.{then-item-productions+else-item-right, else-item-productions}
use Rattle.wb_recheck_entries.proofs.begins.rest_after.Goals as goal

pub returns-then-item-right-clause-rest : goal.returns-then-item-right-clause-rest
returns-then-item-right-clause-rest c x rest is =
    rest_here c.args.grammar.now c.args.item c.right-right.result.now
    (let count = c.productions.ensures.count in let within = c.if-item-productions.true in omega (arith, count, within))
    c.right-right.ensures.right c.if-item-right.true x rest is

pub returns-clause-rest : goal.returns-clause-rest
returns-clause-rest c x rest is =
    elim c.if-item-productions.branch [
      | then-item-productions+else-item-right w ↦
          no_rest c.args.grammar.now c.args.item w.right-right.result.now
          (let count = c.productions.ensures.count in let within = w.if-item-productions.true in omega (arith, count, within))
          w.right-right.ensures.right (let past = w.if-item-right.false in omega (arith, past)) x rest is
      | else-item-productions w ↦ no_rest_past c.args.grammar.now c.args.item
          (let count = c.productions.ensures.count in let past = w.if-item-productions.false in omega (arith, count, past)) x rest is
    ]
