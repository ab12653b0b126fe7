use Rattle.std.proofs.Common.{arith}
use Rattle.wb_items.proofs.NumberingLemmas.{left_opens}
use Rattle.wb_items.proofs.numbering.opened_by.Goals as goal

pub returns : goal.returns
returns c = (
  c.left.ensures.in_range,
  left_opens c.args.grammar.now c.args.item c.left.result c.if-item-gt0.false
      (let e = c.productions.ensures.count in let f = c.if-item-productions.false in omega (arith, e, f)) c.left.ensures.left,
)
