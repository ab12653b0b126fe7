use Rattle.std.proofs.Common.{rules, get_or}
use Rattle.wb_explain_readings.specs.declared.piece.Piece.TheVariants.{Open}
use Rattle.wb_explain_conflicts.proofs.TreeLemmas.{all_pieces, no_tree, one_piece}
use Rattle.wb_explain_conflicts.proofs.shown.push_tree.Goals as goal

pub pieces-init : goal.pieces-init
pieces-init c = no_tree c.args.resolved.now c.args.pieces.now c.args.out.now.items

pub pieces-preserved : goal.pieces-preserved
pieces-preserved c =
    one_piece c.args.resolved.now c.args.pieces.now c.args.out.now.items c.pieces.out.items c.push_shown.new.out.items
    c.pieces.piece-index (get_or c.args.pieces.now c.pieces.piece-index (Open 0)) c.pieces.invariant c.pieces-test.true
    (search rules) c.in_ok-column.ensures

pub returns : goal.returns
returns c =
    all_pieces c.args.resolved.now c.args.pieces.now c.args.out.now.items c.pieces.out.items c.pieces.piece-index
    c.pieces.invariant c.pieces-test.false
