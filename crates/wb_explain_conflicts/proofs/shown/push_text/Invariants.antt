use Rattle.std.proofs.Common.{map, take}
use Rattle.wb_certify_files.specs.Names.{lookahead_shown}
use Rattle.wb_explain_conflicts.specs.Words.{HasWords}
use Rattle.wb_explain_conflicts.proofs.shown.push_text.Given as goal

abbrev pub invariant-terminals : goal.invariant-terminals
invariant-terminals l = HasWords (map (lookahead_shown l.resolved) (take l.terminal-index l.text)) l.initial.out.items l.out.items
