use Rattle.std.proofs.Common.{◌<◌}
use Rattle.std.specs.Prelude.{All}
use Rattle.wb_grammar.proofs.order.order_by.Given as goal

abbrev pub invariant-roots : goal.invariant-roots
invariant-roots l = All (λ p. p < l.count) l.walk.order.items
