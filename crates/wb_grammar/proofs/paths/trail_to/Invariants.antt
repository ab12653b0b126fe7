use Rattle.std.proofs.Common.{◌≡◌, ◌-◌, ◌^◌, length}
use Rattle.wb_grammar.specs.Inner.Paths.{IsTrail}
use Rattle.wb_grammar.proofs.paths.trail_to.Given as goal

abbrev pub invariant-sweeps : goal.invariant-sweeps
invariant-sweeps l = (length l.places.items ≡ length l.fn.places.items) × IsTrail l.edges l.to l.places.items l.trail.items

abbrev pub decreases-sweeps : goal.decreases-sweeps
decreases-sweeps l = 2 ^ 64 - length l.trail.items
