use Rattle.std.proofs.Common.{◌≡◌, ◌⊎◌, ◌+◌, ◌≤◌, ◌<◌, ℕ, Contains, length}
use Rattle.std.specs.Prelude.{◌↔◌}
use Rattle.wb_digraph.specs.Inner.Spreading.{ComesFrom, IsFoundAt, LeavesGroup}
use Rattle.wb_digraph.proofs.runs.add_found.Given as goal

abbrev pub invariant-edges : goal.invariant-edges
invariant-edges l = record {
  within : l.place ≤ length l.graph.edges.now;
  key : (j : ℕ) → l.place ≡ j + 1 → LeavesGroup l.graph.edges.now l.graph.components.now.numbers j l.group;
  taken : (n : ℕ) → Contains l.parts.items n ↔ (Contains l.initial.parts.items n ⊎
      ComesFrom (IsFoundAt l.graph.edges.now l.graph.components.now.numbers l.found l.group) l.place n);
}

abbrev pub decreases-edges : goal.decreases-edges
decreases-edges l = l.place
