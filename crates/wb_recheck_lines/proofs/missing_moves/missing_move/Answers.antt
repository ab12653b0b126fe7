use Rattle.std.proofs.Common.{arith}
use Rattle.wb_recheck_lines.proofs.LineStateLemmas.{states_back}
use Rattle.wb_recheck_lines.proofs.MissingLemmas.{all_listed, lacks, listed_more}
use Rattle.wb_recheck_lines.proofs.missing_moves.missing_move.Goals as goal

pub returns-then-lacks_move : goal.returns-then-lacks_move
returns-then-lacks_move c lines good numbered =
    lacks c.args.kernels.now c.args.found.now.states c.places.place c.state.result c.moves.result.now c.requires.kernels c.state.ensures
    c.moves.ensures.exact c.if-lacks_move.ensures lines good
    (states_back c.args.kernels.now lines c.args.found.now.states numbered)

pub places-preserved : goal.places-preserved
places-preserved c =
    listed_more c.args.kernels.now c.args.found.now.states c.places.place c.state.result c.moves.result.now c.places.invariant
    c.state.ensures c.moves.ensures.exact c.if-lacks_move.ensures

pub returns : goal.returns
returns c lines good numbered =
    let long = c.len-place-end.ensures in
    all_listed c.args.kernels.now c.args.found.now.states c.places.place c.requires.kernels c.places.invariant
    (omega (arith, c.places-test.false, long)) lines good (states_back c.args.kernels.now lines c.args.found.now.states numbered)
