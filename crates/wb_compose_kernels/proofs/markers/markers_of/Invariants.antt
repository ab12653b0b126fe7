use Rattle.wb_compose_kernels.specs.Inner.Images.{AreMarkersUpTo}
use Rattle.wb_compose_kernels.proofs.markers.markers_of.Given as goal

abbrev pub invariant-parts : goal.invariant-parts
invariant-parts l = AreMarkersUpTo l.splice l.blocks l.part l.markers.items
