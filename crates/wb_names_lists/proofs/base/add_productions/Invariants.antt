use Rattle.std.proofs.Common.{◌≡◌, ◌++◌, take}
use Rattle.std.specs.List.{flat_map}
use Rattle.wb_names_theory.specs.Declares.{production_declarations}
use Rattle.wb_names_lists.proofs.base.add_productions.Given as goal

abbrev pub invariant-productions : goal.invariant-productions
invariant-productions l = l.out.items ≡ l.fn.out.items ++ flat_map (production_declarations l.base) (take l.production-index l.productions)
