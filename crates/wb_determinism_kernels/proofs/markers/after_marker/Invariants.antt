use Rattle.wb_determinism_kernels.specs.Inner.Holes.{AfterUpTo}
use Rattle.wb_determinism_kernels.proofs.markers.after_marker.Given as goal

abbrev pub invariant-productions : goal.invariant-productions
invariant-productions l = AfterUpTo l.grammar l.marker l.items.items l.production
