use Rattle.std.proofs.Common.{arith}
use Rattle.wb_session.proofs.GatherLemmas.{gathered_all, gathered_more, root_below}
use Rattle.wb_session.proofs.stacks.add_root.Goals as goal

pub returns-then-link-eq0-clause-gathered : goal.returns-then-link-eq0-clause-gathered
returns-then-link-eq0-clause-gathered c first count are =
    gathered_all c.args.link c.args.children.now.items c.if-link-eq0.true are

pub returns-clause-gathered : goal.returns-clause-gathered
returns-clause-gathered c first count are =
    gathered_more c.args.link c.in_ok-below.below (omega (arith, c.if-link-eq0.false)) c.in_ok-below.ensures.root are

pub returns-clause-below : goal.returns-clause-below
returns-clause-below c = root_below c.requires.linked c.in_ok-below.ensures.root
