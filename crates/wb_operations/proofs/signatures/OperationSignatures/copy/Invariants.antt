use Rattle.std.proofs.Common.{◌≡◌, take}
use Rattle.wb_operations.proofs.signatures.OperationSignatures.copy.Given as goal

abbrev pub invariant-loop-operation : goal.invariant-loop-operation
invariant-loop-operation l = l.made ≡ take l.operation l.self
