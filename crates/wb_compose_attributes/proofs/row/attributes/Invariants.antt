use Rattle.std.proofs.Common.{◌≡◌, map, take}
use Rattle.wb_compose_attributes.specs.NewNumbers.{map_of}
use Rattle.wb_compose_attributes.proofs.row.attributes.Given as goal

abbrev pub invariant-attributes : goal.invariant-attributes
invariant-attributes l = l.made.items ≡ map ((map_of l.numbers).attribute) (take l.number-index l.old)
