use Rattle.std.proofs.Common.{◌≡◌, ◌+◌, ◌*◌, Some, length, slice_get}
use Rattle.std.specs.List.{sum}
use Rattle.wb_graph.specs.Inner.Search.{state_of, IsSearch, KeepsMet}
use Rattle.wb_graph.specs.declared.search.Colour.TheVariants.{White}
use Rattle.wb_graph.proofs.search.Search.visit.Given as goal

abbrev pub invariant-path : goal.invariant-path
invariant-path l = record {
  search : IsSearch l.edges l.self.path.items (state_of l.self);
  keeps : KeepsMet (state_of l.fn.self) (state_of l.self);
  visited : ¬ (slice_get l.self.colours.items l.root ≡ Some White);
}

abbrev pub decreases-path : goal.decreases-path
decreases-path l = 2 * sum l.self.untaken.firsts.items + length l.self.path.items
