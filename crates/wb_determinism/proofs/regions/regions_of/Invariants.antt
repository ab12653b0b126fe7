use Rattle.wb_determinism.specs.Regions.{AreRegions}
use Rattle.wb_determinism.proofs.regions.regions_of.Given as goal

abbrev pub invariant-kernels : goal.invariant-kernels
invariant-kernels l = AreRegions l.host l.both l.numbers l.state l.regions.items
