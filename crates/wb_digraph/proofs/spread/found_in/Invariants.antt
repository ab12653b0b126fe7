use Rattle.std.proofs.Common.{◌≡◌, length}
use Rattle.wb_digraph.specs.Inner.Pools.{Extends}
use Rattle.wb_digraph.specs.Inner.Spreading.{AreFound}
use Rattle.wb_digraph.proofs.spread.found_in.Given as goal

abbrev pub invariant-groups : goal.invariant-groups
invariant-groups l = record {
  len : length l.found.items ≡ l.group;
  extends : Extends l.initial.pool l.pool;
  found : AreFound l.graph.edges.now l.graph.firsts.now l.graph.components.now.numbers l.initial.pool l.pool l.found.items;
}
