use Rattle.std.proofs.Common.{◌≡◌, ◌++◌, take}
use Rattle.wb_compose_attributes.specs.Inner.Gathered.{names_in}
use Rattle.wb_compose_attributes.proofs.lists.add_names.Given as goal

abbrev pub invariant-placed : goal.invariant-placed
invariant-placed l = l.made.items ≡ l.initial.made.items ++ names_in (take l.extension-index l.placed)
