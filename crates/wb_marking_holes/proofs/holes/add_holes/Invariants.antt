use Rattle.std.proofs.Common.{◌≡◌, ◌++◌, ◌-◌, take}
use Rattle.wb_marking_holes.specs.Holes.{hole_productions}
use Rattle.wb_marking_holes.proofs.holes.add_holes.Given as goal

abbrev pub invariant-holes : goal.invariant-holes
invariant-holes l =
    l.made ≡ record l.initial.made { productions = l.initial.made.productions ++ hole_productions l.first (take (l.hole - l.first) l.extensible) }
