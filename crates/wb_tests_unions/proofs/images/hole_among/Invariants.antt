use Rattle.std.proofs.Common.{◌≡◌, ◌+◌, drop}
use Rattle.wb_determinism.specs.Images.{hole_among}
use Rattle.wb_tests_unions.proofs.images.hole_among.Given as goal

abbrev pub invariant-holes : goal.invariant-holes
invariant-holes l = hole_among (l.first + l.place) l.nonterminal (drop l.place l.extensible) ≡ hole_among l.first l.nonterminal l.extensible
