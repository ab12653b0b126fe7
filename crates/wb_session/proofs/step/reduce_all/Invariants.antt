use Rattle.std.proofs.Common.{◌≤◌, ◌-◌, ◌^◌, length}
use Rattle.wb_session.specs.Stacks.{roots_of}
use Rattle.wb_session.specs.Inner.Steps.{AreMade, Grows}
use Rattle.wb_session.proofs.step.reduce_all.Given as goal

abbrev pub invariant-reductions : goal.invariant-reductions
invariant-reductions l = record {
  are : AreMade l.language l.terminal (roots_of l.initial.stacks) l.from (roots_of l.stacks) l.link;
  grows : Grows l.language (roots_of l.initial.stacks) (roots_of l.stacks);
  link : l.link ≤ length l.stacks.entries.items;
}

abbrev pub decreases-reductions : goal.decreases-reductions
decreases-reductions l = 2 ^ 64 - length l.stacks.entries.items
