use Rattle.std.proofs.Common.{◌≡◌, map, take}
use Rattle.wb_compose_theory_grammar.specs.Places.{total_of}
use Rattle.wb_compose_attributes.specs.Inner.Written.{locals_size}
use Rattle.wb_compose_attributes.proofs.written.total_on.Given as goal

abbrev pub invariant-placed : goal.invariant-placed
invariant-placed l = l.total ≡ total_of (map (locals_size l.on.leading l.on.number l.on.row.now) (take l.extension-index l.placed))
