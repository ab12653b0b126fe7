use Rattle.std.proofs.Common.{◌≡◌, ◌++◌, [], take}
use Rattle.wb_report.specs.Inner.Pieces.{joined}
use Rattle.wb_report.proofs.pieces.push_pieces.Given as goal

abbrev pub invariant-pieces : goal.invariant-pieces
invariant-pieces l = l.out.items ≡ l.initial.out.items ++ joined [] (take l.piece-index l.pieces)
