use Rattle.std.proofs.Common.{arith}
use Rattle.wb_generate.proofs.GroupLemmas.{before_all, before_more, below_all, rule_here}
use Rattle.wb_generate.proofs.groups.uses.Goals as goal

pub add_uses-requires : goal.add_uses-requires
add_uses-requires c = below_all c.args.grammar.now _ c.right.result.now c.productions.invariant.len c.right.ensures.in_range

pub productions-preserved : goal.productions-preserved
productions-preserved c =
    let rule = rule_here c.args.grammar.now c.productions.production c.right.result.now (omega arith) c.right.ensures.right in
    before_more c.args.grammar.now c.productions.production rule.0 c.right.result.now c.productions.groups.items c.add_uses.new.groups.items
    c.productions.invariant rule.1 c.in_ok-add_uses.ensures

pub returns : goal.returns
returns c = before_all c.args.grammar.now c.productions.production c.productions.groups.items (omega arith) (omega arith)
    c.productions.invariant
