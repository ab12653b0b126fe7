use Rattle.std.proofs.Common.{◌+◌}
use Rattle.wb_compose_language.specs.Inner.FormsMade.{AreMadeBelow}
use Rattle.wb_compose_language.proofs.extension_forms.add_extension.Given as goal

abbrev pub invariant-terminals : goal.invariant-terminals
invariant-terminals l = AreMadeBelow l.opened.lent (l.number + l.before) l.made
