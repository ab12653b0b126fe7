use Rattle.std.proofs.Common.{arith}
use Rattle.wb_report.proofs.LineLemmas.{pieces_more}
use Rattle.wb_report.proofs.pieces.push_pieces.Goals as goal

pub pieces-preserved : goal.pieces-preserved
pieces-preserved c =
    pieces_more c.args.pieces.now c.pieces.piece-index c.piece-item.result c.args.out.now.items c.pieces.out.items c.push_piece.new.out.items
    (omega (arith, c.pieces-test.true)) c.piece-item.is c.pieces.invariant c.in_ok-push_piece.ensures
