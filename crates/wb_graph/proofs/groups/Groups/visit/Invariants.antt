use Rattle.std.proofs.Common.{◌≡◌, ◌+◌, ◌*◌, None, Some, length, slice_get}
use Rattle.std.specs.List.{sum}
use Rattle.wb_graph.specs.Inner.Groups.{state_of, IsGrouping, KeepsMet}
use Rattle.wb_graph.specs.declared.groups.Mark.TheVariants.{New}
use Rattle.wb_graph.proofs.groups.Groups.visit.Given as goal

abbrev pub invariant-path : goal.invariant-path
invariant-path l = record {
  grouping : IsGrouping l.edges None (state_of l.self);
  keeps : KeepsMet (state_of l.fn.self) (state_of l.self);
  visited : ¬ (slice_get l.self.marks.items l.root ≡ Some New);
}

abbrev pub decreases-path : goal.decreases-path
decreases-path l = 2 * sum l.self.untaken.firsts.items + length l.self.path.items
