use Rattle.std.proofs.Common.{◌+◌, ◌-◌, length, arith}
use Rattle.wb_grammar.proofs.OccurrenceLemmas.{hidden_is, hidden_none, hidden_whole}
use Rattle.wb_grammar.proofs.occurrence.hidden_left.Goals as goal

pub returns-then-empty-eq0 : goal.returns-then-empty-eq0
returns-then-empty-eq0 c = hidden_none c.args.nullable.now c.args.symbols.now c.args.empty c.requires.leading (omega arith)

pub returns-then-empty-symbols : goal.returns-then-empty-symbols
returns-then-empty-symbols c = hidden_is c.args.nullable.now c.args.symbols.now c.args.empty (c.args.empty + 1 - 1) c.requires.leading
    (omega arith)

pub returns-else-empty-symbols : goal.returns-else-empty-symbols
returns-else-empty-symbols c = hidden_whole c.args.nullable.now c.args.symbols.now c.args.empty
    (length c.args.symbols.now - 1) c.requires.leading (omega arith) (omega arith)
