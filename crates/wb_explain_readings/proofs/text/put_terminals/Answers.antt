use Rattle.std.proofs.Common.{rules, get_or}
use Rattle.wb_explain_readings.specs.declared.piece.Piece.TheVariants.{Open}
use Rattle.wb_explain_readings.proofs.StepLemmas.{leaves_more}
use Rattle.wb_explain_readings.proofs.text.put_terminals.Goals as goal

pub pieces-preserved : goal.pieces-preserved
pieces-preserved c =
    leaves_more c.args.pieces.now c.args.made.now.items c.pieces.made.items c.push_leaf.new.made.items c.pieces.piece-index
    (get_or c.args.pieces.now c.pieces.piece-index (Open 0)) c.pieces.invariant c.pieces-test.true (search rules) c.in_ok-push_leaf.ensures
