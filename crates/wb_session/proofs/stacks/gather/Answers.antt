use Rattle.std.proofs.Common.{arith, rules}
use Rattle.wb_session.proofs.GatherLemmas.{gathered_none, gathered_turned}
use Rattle.wb_session.proofs.stacks.gather.Goals as goal

pub roots-init : goal.roots-init
roots-init c = record {
  are = gathered_none c.args.entries.now c.args.values.now c.args.link c.clear.new.self.items c.clear.ensures.items;
  below = omega arith;
}

pub roots-preserved : goal.roots-preserved
roots-preserved c = record {
  are = c.in_ok-below.ensures.gathered c.args.link c.roots._taken c.roots.invariant.are;
  below = omega (arith, c.in_ok-below.ensures.below, c.roots.invariant.below);
}

pub returns-clause-gathered : goal.returns-clause-gathered
returns-clause-gathered c = gathered_turned c.roots.children.items c.reverse.new.self.items (search rules) (search rules)
