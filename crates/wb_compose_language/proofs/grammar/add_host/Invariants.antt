use Rattle.std.proofs.Common.{◌≡◌, take}
use Rattle.wb_compose_language.proofs.grammar.add_host.Given as goal

abbrev pub invariant-productions : goal.invariant-productions
invariant-productions l = l.made ≡ record l.initial.made { productions = take l.production l.host.productions }
