use Rattle.std.proofs.Common.{◌≡◌, length}
use Rattle.wb_digraph.specs.Inner.Chains.{AreChained}
use Rattle.wb_digraph.specs.Inner.Spreading.{LeavesGroup}
use Rattle.wb_digraph.proofs.spread.edge_chains.Given as goal

abbrev pub invariant-edges : goal.invariant-edges
invariant-edges l = record {
  len : length l.chains.earlier.items ≡ l.number;
  keys : length l.chains.lasts.items ≡ length l.components.roots;
  chained : AreChained (LeavesGroup l.edges l.components.numbers) l.chains.lasts.items l.chains.earlier.items;
}
