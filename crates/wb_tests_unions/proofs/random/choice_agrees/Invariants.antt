use Rattle.std.specs.Prelude.{All}
use Rattle.wb_compose.specs.Composed.{IsWith}
use Rattle.wb_tests_unions.proofs.random.choice_agrees.Given as goal

abbrev pub invariant-tries : goal.invariant-tries
invariant-tries g l = All (IsWith l.certified.host.now) l.extensions.items
