use Rattle.std.proofs.Common.{◌<◌}
use Rattle.std.specs.Prelude.{All}
use Rattle.wb_grammar.proofs.order.add_productions.Given as goal

abbrev pub invariant-places : goal.invariant-places
invariant-places l = All (λ p. p < l.count) l.order.items
