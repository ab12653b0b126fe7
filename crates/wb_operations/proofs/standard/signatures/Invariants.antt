use Rattle.std.proofs.Common.{◌≡◌, ◌≤◌, take}
use Rattle.wb_operations.specs.Standard.{standard_signatures}
use Rattle.wb_operations.proofs.standard.signatures.Given as goal

abbrev pub invariant-loop-number : goal.invariant-loop-number
invariant-loop-number l = l.made ≡ take l.number standard_signatures
