use Rattle.std.specs.Prelude.{All}
use Rattle.wb_tests_unions.specs.Composed.{IsWith}
use Rattle.wb_tests_certify.proofs.compose_kernels.all_agree.Given as goal

abbrev pub invariant-rows : goal.invariant-rows
invariant-rows g l = All (IsWith l.host) l.extensions.items
