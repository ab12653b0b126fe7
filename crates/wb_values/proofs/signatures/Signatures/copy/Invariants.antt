use Rattle.std.proofs.Common.{◌≡◌, take}
use Rattle.wb_values.proofs.signatures.Signatures.copy.Given as goal

abbrev pub invariant-loop-production : goal.invariant-loop-production
invariant-loop-production l = l.made ≡ take l.production l.self
