use Rattle.std.proofs.Common.{◌≡◌, ◌≤◌, length, take}
use Rattle.wb_values.proofs.packed.PackedValues.truncate.Given as goal

abbrev pub invariant-values : goal.invariant-values
invariant-values l = (l.len ≤ length l.self) × (take l.len l.self ≡ take l.len l.fn.self)

abbrev pub decreases-values : goal.decreases-values
decreases-values l = length l.self
