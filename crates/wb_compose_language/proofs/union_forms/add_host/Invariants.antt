use Rattle.wb_compose_language.specs.Inner.FormsMade.{AreMadeBelow}
use Rattle.wb_compose_language.proofs.union_forms.add_host.Given as goal

abbrev pub invariant-terminals : goal.invariant-terminals
invariant-terminals l = AreMadeBelow l.lent l.terminal l.made
