use Rattle.std.proofs.Common.{◌<◌}
use Rattle.std.specs.Prelude.{All}
use Rattle.wb_grammar.proofs.order.add_backwards.Given as goal

abbrev pub invariant-found : goal.invariant-found
invariant-found l = All (λ p. p < l.count) l.order.items
