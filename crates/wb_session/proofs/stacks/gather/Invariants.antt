use Rattle.std.proofs.Common.{◌≤◌}
use Rattle.wb_session.specs.Inner.Gathered.{AreBeingGathered}
use Rattle.wb_session.proofs.stacks.gather.Given as goal

abbrev pub invariant-roots : goal.invariant-roots
invariant-roots l = record {
  are : AreBeingGathered l.entries l.values l.link l._taken l.below l.children.items;
  below : l.below ≤ l.link;
}
