use Rattle.std.proofs.Common.{subst}
use Rattle.wb_marking.specs.Inner.Compared.{MayClash}
use Rattle.wb_marking.proofs.ClashLemmas.{gathers_none, gathers_push, lists_none, lists_push}
use Rattle.wb_marking.proofs.clashes.add_pair.Goals as goal

pub returns-in_ok-push-clause-gathers : goal.returns-in_ok-push-clause-gathers
returns-in_ok-push-clause-gathers c = gathers_push c.args.compared.now.scanned.now.parts.now c.args.pairs.now.items c.push.new.list.items
    c.args.compared.now.marker c.args.other c.in_ok-push.ensures.ok
    (subst (MayClash c.args.compared.now c.args.other) c.if-may_clash.true c.may_clash.ensures)

pub returns-in_ok-push-clause-lists : goal.returns-in_ok-push-clause-lists
returns-in_ok-push-clause-lists c = lists_push c.args.compared.now.scanned.now.parts.now c.args.pairs.now.items c.push.new.list.items
    c.args.compared.now.marker c.args.other c.in_ok-push.ensures.ok

pub returns-else-may_clash-clause-gathers : goal.returns-else-may_clash-clause-gathers
returns-else-may_clash-clause-gathers c = gathers_none c.args.compared.now.scanned.now.parts.now c.args.pairs.now.items

pub returns-else-may_clash-clause-lists : goal.returns-else-may_clash-clause-lists
returns-else-may_clash-clause-lists c = lists_none c.args.compared.now.scanned.now.parts.now c.args.pairs.now.items
    c.args.compared.now.marker c.args.other (subst (MayClash c.args.compared.now c.args.other) c.if-may_clash.false c.may_clash.ensures)
