use Rattle.std.proofs.Common.{◌-◌, ◌^◌}
use Rattle.wb_recheck_writer.specs.Inner.Reached.{IsRowUpTo, grammar_of, lines_of}
use Rattle.wb_recheck_writer.proofs.opened.add_terminals.Given as goal

abbrev pub invariant-terminals : goal.invariant-terminals
invariant-terminals l = IsRowUpTo (grammar_of l.context) (lines_of l.context) l.entries l.opening l.production l.from

abbrev pub decreases-terminals : goal.decreases-terminals
decreases-terminals l = 2 ^ 64 - l.from
