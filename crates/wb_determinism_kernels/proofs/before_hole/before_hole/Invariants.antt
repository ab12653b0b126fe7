use Rattle.wb_determinism_kernels.specs.Inner.Holes.{HasNoHole}
use Rattle.wb_determinism_kernels.proofs.before_hole.before_hole.Given as goal

abbrev pub invariant-kernels : goal.invariant-kernels
invariant-kernels l = HasNoHole l.host l.hole l.state
