use Rattle.std.proofs.Common.{◌≤◌, length}
use Rattle.wb_graph.proofs.MarkLemmas.{AreHigh}
use Rattle.wb_graph.proofs.groups.kept_starts.Given as goal

abbrev pub invariant-starts : goal.invariant-starts
invariant-starts l = record {
  within : l.kept ≤ length l.starts;
  high : AreHigh l.starts l.place l.kept;
}

abbrev pub decreases-starts : goal.decreases-starts
decreases-starts l = l.kept
