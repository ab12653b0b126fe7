use Rattle.wb_parser_expected.specs.Inner.Walks.{AreThoseBelow}
use Rattle.wb_parser_expected.proofs.each.add_all.Given as goal

abbrev pub invariant-terminals : goal.invariant-terminals
invariant-terminals l = AreThoseBelow l.language l.states l.terminal l.found.items
