use Rattle.std.proofs.Common.{◌≡◌, ◌++◌, ◌-◌, length, map, take}
use Rattle.wb_compose_theory_grammar.specs.Unions.{lifted_by, own_productions, renamed_production}
use Rattle.wb_compose_language.proofs.own_productions.add_own.Given as goal

abbrev pub invariant-productions : goal.invariant-productions
invariant-productions l = l.made ≡ record l.initial.made {
  productions = l.initial.made.productions ++
      map (renamed_production (lifted_by l.host l.before.terminals l.before.nonterminals 0))
      (take (l.production - length l.host.productions) (own_productions l.host l.extension));
}
