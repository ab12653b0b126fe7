use Rattle.std.proofs.Common.{◌+◌, ◌-◌, ◌∙◌, length, drop, length-drop, arith}
use Rattle.std.proofs.lemmas.List.{take_all}
use Rattle.wb_recheck_writer.proofs.FirstLemmas.{rest_ended_read, rest_past, rest_read}
use Rattle.wb_recheck_writer.proofs.first_after.rest_after.Goals as goal

pub returns-then-item-productions-clause-rest : goal.returns-then-item-productions-clause-rest
returns-then-item-productions-clause-rest c x rest is =
    rest_past c.args.grammar.now c.args.item
    (let count = c.productions.ensures.count in let past = c.if-item-productions.true in omega (arith, count, past)) x rest is

pub returns-then-item-right-clause-rest : goal.returns-then-item-right-clause-rest
returns-then-item-right-clause-rest c x rest is =
    rest_ended_read c.args.grammar.now c.args.item c.right-right.result.now
    (let count = c.productions.ensures.count in let lt = c.if-item-productions.false in omega (arith, count, lt))
    c.right-right.ensures.right
    (let past = c.if-item-right.true in omega (arith, past)) x rest is

pub returns-clause-rest : goal.returns-clause-rest
returns-clause-rest c x rest is =
    let right = c.right-right.result.now in
    let d = c.args.item.dot in
    take_all (length right - (d + 1)) (drop (d + 1) right) (omega (arith, length-drop (d + 1) right))
    ∙ rest_read c.args.grammar.now c.args.item right
    (let count = c.productions.ensures.count in let lt = c.if-item-productions.false in omega (arith, count, lt))
    c.right-right.ensures.right x rest is
