use Rattle.std.proofs.Common.{◌<◌, ◌+◌, ◌*◌, ℕ, Contains, length, get_or}
use Rattle.std.specs.List.{sum}
use Rattle.wb_graph.specs.Inner.Worklist.{worklist_of, IsMarked, IsReaching}
use Rattle.wb_graph.proofs.worklist.Worklist.reach.Given as goal

abbrev pub invariant-starts : goal.invariant-starts
invariant-starts l = record {
  reaching : IsReaching (length l.fn.self.reached.items) l.edges l.from (worklist_of l.self);
  starts : (k : ℕ) → k < l.start-index → IsMarked (worklist_of l.self) (get_or l.from k 0);
}

abbrev pub invariant-steps : goal.invariant-steps
invariant-steps l = record {
  reaching : IsReaching (length l.fn.self.reached.items) l.edges l.from (worklist_of l.self);
  starts : (v : ℕ) → Contains l.from v → IsMarked (worklist_of l.self) v;
}

abbrev pub decreases-steps : goal.decreases-steps
decreases-steps l = 2 * sum l.self.untaken.firsts.items + length l.self.waiting.items
