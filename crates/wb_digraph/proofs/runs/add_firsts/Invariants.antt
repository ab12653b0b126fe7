use Rattle.std.proofs.Common.{◌≡◌, ◌⊎◌, ◌+◌, ◌≤◌, ◌<◌, ℕ, Contains, length}
use Rattle.std.specs.Prelude.{◌↔◌}
use Rattle.wb_digraph.specs.Inner.Spreading.{ComesFrom, IsFirstAt, IsInGroup}
use Rattle.wb_digraph.proofs.runs.add_firsts.Given as goal

abbrev pub invariant-vertices : goal.invariant-vertices
invariant-vertices l = record {
  within : l.place ≤ length l.graph.firsts.now;
  key : (j : ℕ) → l.place ≡ j + 1 → IsInGroup l.graph.components.now.numbers j l.group;
  taken : (n : ℕ) → Contains l.parts.items n ↔ (Contains l.initial.parts.items n ⊎
      ComesFrom (IsFirstAt l.graph.firsts.now l.graph.components.now.numbers l.group) l.place n);
}

abbrev pub decreases-vertices : goal.decreases-vertices
decreases-vertices l = l.place
