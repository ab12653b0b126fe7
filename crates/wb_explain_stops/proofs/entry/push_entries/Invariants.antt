use Rattle.std.proofs.Common.{take}
use Rattle.wb_explain_stops.specs.Inner.Entries.{HasEntries}
use Rattle.wb_explain_stops.proofs.entry.push_entries.Given as goal

abbrev pub invariant-terminals : goal.invariant-terminals
invariant-terminals l = HasEntries l.names (take l.terminal-index l.terminals) l.initial.out.items l.out.items
