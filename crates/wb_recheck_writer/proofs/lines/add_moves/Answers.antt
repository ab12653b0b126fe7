use Rattle.std.proofs.Common.{arith}
use Rattle.wb_recheck_writer.proofs.MoveLemmas.{moves_done, next_move}
use Rattle.wb_recheck_writer.proofs.lines.add_moves.Goals as goal

pub add_line-requires-clause-before : goal.add_line-requires-clause-before
add_line-requires-clause-before c = c.places.invariant.up

pub add_line-requires-clause-next : goal.add_line-requires-clause-next
add_line-requires-clause-next c =
    next_move c.args.kernels.now c.places.numbered.states.states c.args.from c.state-state.result c.places.invariant.at
    c.moves-moves.result.now
    c.moves-moves.ensures.exact c.moves-moves.ensures.in_order c.places.place c.move_at.result c.move_at.ensures c.places.invariant.below

pub returns : goal.returns
returns c =
    moves_done c.args.kernels.now c.places.numbered.states.states c.args.from c.state-state.result c.places.invariant.at
    c.moves-moves.result.now
    c.moves-moves.ensures.exact c.moves-moves.ensures.in_order c.places.numbered.lines.items c.places.numbered.states.count c.places.place
    c.places.invariant.up c.places.invariant.below (let past = c.places-test.false in omega (arith, past))
