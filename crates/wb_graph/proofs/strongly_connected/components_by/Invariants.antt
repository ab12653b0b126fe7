use Rattle.std.proofs.Common.{◌≡◌, ◌<◌, ℕ, [], None, Some, length, slice_get}
use Rattle.wb_graph.specs.Inner.Groups.{state_of, IsGrouping}
use Rattle.wb_graph.specs.declared.groups.Mark.TheVariants.{New}
use Rattle.wb_graph.proofs.strongly_connected.components_by.Given as goal

abbrev pub invariant-roots : goal.invariant-roots
invariant-roots l = record {
  grouping : IsGrouping l.edges None (state_of l.groups);
  path : l.groups.path.items ≡ [];
  len : length l.groups.marks.items ≡ l.count;
  met : (v : ℕ) → v < l.root → ¬ (slice_get l.groups.marks.items v ≡ Some New);
}
