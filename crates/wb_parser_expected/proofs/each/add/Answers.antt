use Rattle.wb_parser_expected.proofs.EachLemmas.{one_fewer, one_more}
use Rattle.wb_parser_expected.proofs.each.add.Goals as goal

pub returns-in_ok-push : goal.returns-in_ok-push
returns-in_ok-push c =
    one_more c.args.language.now c.args.states.now c.args.found.now.items c.push.new.list.items c.args.terminal c.in_ok-could_come.field-0
    c.in_ok-push.ensures.ok c.in_ok-could_come.ensures c.if-branch.true

pub returns-else-branch : goal.returns-else-branch
returns-else-branch c =
    one_fewer c.args.language.now c.args.states.now c.args.found.now.items c.args.terminal c.in_ok-could_come.field-0
    c.in_ok-could_come.ensures c.if-branch.false
