use Rattle.std.proofs.Common.{◌≡◌, length}
use Rattle.wb_digraph.specs.Inner.Chains.{AreChained}
use Rattle.wb_digraph.specs.Inner.Spreading.{IsInGroup}
use Rattle.wb_digraph.proofs.spread.vertex_chains.Given as goal

abbrev pub invariant-vertices : goal.invariant-vertices
invariant-vertices l = record {
  len : length l.chains.earlier.items ≡ l.vertex;
  keys : length l.chains.lasts.items ≡ length l.components.roots;
  chained : AreChained (IsInGroup l.components.numbers) l.chains.lasts.items l.chains.earlier.items;
}
