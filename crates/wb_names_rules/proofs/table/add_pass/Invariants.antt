use Rattle.wb_names_rules.specs.Indexed.{IsIndexed}
use Rattle.wb_names_rules.proofs.table.add_pass.Given as goal

abbrev pub invariant-places : goal.invariant-places
invariant-places l = IsIndexed l.declarations l.table.keys l.table.places.items l.pass l.place
