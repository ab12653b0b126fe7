use Rattle.std.proofs.Common.{All, length}
use Rattle.wb_values.specs.ValuesIn.{IsIn}
use Rattle.wb_tests_values.proofs.trees_in_place.add_children.Given as goal

abbrev pub invariant-loop-number : goal.invariant-loop-number
invariant-loop-number l = All (IsIn (length l.store)) l.packed
