use Rattle.std.proofs.Common.{◌≡◌, map, take}
use Rattle.wb_compose_texts.specs.Names.{name_at}
use Rattle.wb_compose_texts.proofs.withdrawn.names_of.Given as goal

abbrev pub invariant-numbers : goal.invariant-numbers
invariant-numbers l = l.made.items ≡ map (name_at l.names) (take l.number-index l.numbers)
