use Rattle.std.proofs.Common.{◌+◌, arith}
use Rattle.wb_grammar.proofs.OccurrenceLemmas.{corner_is, corner_whole}
use Rattle.wb_grammar.proofs.occurrence.left_corner.Goals as goal

pub returns-then-empty-symbols : goal.returns-then-empty-symbols
returns-then-empty-symbols c = corner_is c.args.nullable.now c.args.symbols.now c.args.empty (c.args.empty + 1) c.requires (omega arith)

pub returns-else-empty-symbols : goal.returns-else-empty-symbols
returns-else-empty-symbols c = corner_whole c.args.nullable.now c.args.symbols.now c.args.empty c.requires (omega arith)
