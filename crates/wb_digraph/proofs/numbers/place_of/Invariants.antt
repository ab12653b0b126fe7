use Rattle.std.proofs.Common.{◌-◌}
use Rattle.wb_grammar_theory.specs.declared.item.Item.{Item}
use Rattle.wb_items.specs.Kernels.{Precedes}
use Rattle.wb_items.proofs.HalvesLemmas.{LiesBetween}
use Rattle.wb_digraph.proofs.numbers.place_of.Given as goal

abbrev pub invariant-halves : goal.invariant-halves
invariant-halves l = LiesBetween (λ (i : Item). Precedes i l.item) (λ (i : Item). Precedes l.item i) l.items l.low l.high

abbrev pub decreases-halves : goal.decreases-halves
decreases-halves l = l.high - l.low
