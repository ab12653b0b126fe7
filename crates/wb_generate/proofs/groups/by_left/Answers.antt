use Rattle.std.proofs.Common.{[], arith}
use Rattle.wb_generate.proofs.GroupLemmas.{left_all, left_more, left_read}
use Rattle.wb_generate.proofs.groups.by_left.Goals as goal

pub productions-preserved : goal.productions-preserved
productions-preserved c =
    left_more c.args.grammar.now c.productions.production c.left.result c.productions.groups.items c.add.new.groups.items (0, [])
    c.productions.invariant (omega arith)
    (left_read c.args.grammar.now c.productions.production c.left.result (omega arith) c.left.ensures.left) c.left.ensures.in_range
    c.in_ok-add.ensures

pub returns-clause-groups : goal.returns-clause-groups
returns-clause-groups c = left_all c.args.grammar.now c.productions.production c.productions.groups.items (omega arith)
    c.productions.invariant
