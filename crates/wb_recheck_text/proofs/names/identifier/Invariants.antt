use Rattle.std.proofs.Common.{◌≤◌, ◌-◌, length, take}
use Rattle.wb_base.specs.Identifiers.{IsIdentifier}
use Rattle.wb_recheck_text.proofs.names.identifier.Given as goal

abbrev pub invariant-loop-at : goal.invariant-loop-at
invariant-loop-at l = (l.at ≤ length l.text) × IsIdentifier (take l.at l.text)

abbrev pub decreases-loop-at : goal.decreases-loop-at
decreases-loop-at l = length l.text - l.at
