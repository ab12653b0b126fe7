use Rattle.wb_determinism_kernels.proofs.FollowLemmas.{after_grows, row_now, row_then}
use Rattle.wb_determinism_kernels.proofs.follow.row_of.Goals as goal

pub add_move-requires-clause-kernels : goal.add_move-requires-clause-kernels
add_move-requires-clause-kernels c =
    after_grows c.args.found.now c.moves.found c.args.moved.now c.args.place c.requires.so_far c.requires.place c.moves.invariant.grows
    c.requires.kernels

pub add_move-requires-clause-before : goal.add_move-requires-clause-before
add_move-requires-clause-before c =
    row_now c.args.found.now c.moves.found c.args.moved.now c.args.place c.moves.row.items c.moves.at c.moves.invariant

pub moves-preserved : goal.moves-preserved
moves-preserved c =
    row_then c.args.found.now c.moves.found c.add_move.new.found c.args.moved.now c.args.place c.moves.row.items c.add_move.new.row.items
    c.moves.at _ c.moves.invariant c.in_ok-add_move.ensures
