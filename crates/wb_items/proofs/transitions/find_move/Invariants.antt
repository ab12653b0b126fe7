use Rattle.std.proofs.Common.{◌-◌}
use Rattle.wb_items.specs.declared.transitions.Move.{Move}
use Rattle.wb_items.specs.Order.{SymbolPrecedes}
use Rattle.wb_items.proofs.HalvesLemmas.{LiesBetween}
use Rattle.wb_items.proofs.transitions.find_move.Given as goal

abbrev pub invariant-halves : goal.invariant-halves
invariant-halves l = LiesBetween (λ (move : Move). SymbolPrecedes move.symbol l.symbol)
    (λ (move : Move). SymbolPrecedes l.symbol move.symbol) l.row l.low l.high

abbrev pub decreases-halves : goal.decreases-halves
decreases-halves l = l.high - l.low
