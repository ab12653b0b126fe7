use Rattle.std.proofs.Common.{◌≡◌, ◌<◌, ℕ, [], Some, length, slice_get}
use Rattle.wb_graph.specs.Inner.Search.{state_of, IsSearch}
use Rattle.wb_graph.specs.declared.search.Colour.TheVariants.{White}
use Rattle.wb_graph.proofs.order.order_by.Given as goal

abbrev pub invariant-roots : goal.invariant-roots
invariant-roots l = record {
  search : IsSearch l.edges [] (state_of l.search);
  path : l.search.path.items ≡ [];
  len : length l.search.colours.items ≡ l.count;
  met : (v : ℕ) → v < l.root → ¬ (slice_get l.search.colours.items v ≡ Some White);
}
