use Rattle.std.proofs.Common.{take}
use Rattle.wb_explain_conflicts.specs.Words.{HasTree}
use Rattle.wb_explain_conflicts.proofs.shown.push_tree.Given as goal

abbrev pub invariant-pieces : goal.invariant-pieces
invariant-pieces l = HasTree l.resolved (take l.piece-index l.pieces) l.initial.out.items l.out.items
