use Rattle.std.proofs.Common.{arith}
use Rattle.wb_operations.specs.Standard.{standard_at, standard_operations}
use Rattle.wb_operations.proofs.KindLemmas.{sound_at}
use Rattle.wb_tests_values.proofs.operation_tables.is_joined.Goals as goal

pub add-requires-clause-kind : goal.add-requires-clause-kind
unfolding standard_at standard_operations
add-requires-clause-kind c = λ values are. rw (c.new-table.ensures.signatures) ((sound_at 12 (omega arith)).kind values are)
