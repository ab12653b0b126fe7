use Rattle.std.proofs.Common.{◌≡◌, take}
use Rattle.wb_marking_holes.proofs.holes.add_productions.Given as goal

abbrev pub invariant-productions : goal.invariant-productions
invariant-productions l = l.made ≡ record l.initial.made { productions = take l.production l.grammar.productions }
