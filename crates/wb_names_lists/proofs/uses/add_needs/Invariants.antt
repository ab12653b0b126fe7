use Rattle.std.proofs.Common.{◌≡◌, ◌++◌, take}
use Rattle.std.specs.List.{flat_map}
use Rattle.wb_names_theory.specs.Uses.{needs_uses}
use Rattle.wb_names_lists.proofs.uses.add_needs.Given as goal

abbrev pub invariant-needs : goal.invariant-needs
invariant-needs l = l.out.items ≡ l.fn.out.items ++ flat_map (needs_uses l.nonterminal) (take l.attribute-index l.needs)
