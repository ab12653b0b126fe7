use Rattle.std.proofs.lemmas.Option.{slice_get-get_or}
use Rattle.wb_lookahead.proofs.GotoLemmas.{gotos_more, gotos_end}
use Rattle.wb_lookahead.proofs.rows.gotos_at.Goals as goal

pub moves-preserved : goal.moves-preserved
moves-preserved c =
    gotos_more c.requires.kernels c.args.state c.moves-step-items.result.now c.moves.row.items c.put_goto.new.row.items c.moves.step-index _
    c.moves-step-items.ensures.exact (slice_get-get_or c.moves-step-items.result.now c.moves.step-index _ c.moves-test.true)
    c.in_ok-put_goto.ensures c.moves.invariant

pub returns : goal.returns
returns c =
    gotos_end c.requires.kernels c.args.state c.moves-step-items.result.now c.moves.row.items c.moves.step-index c.requires.state
    c.moves-step-items.ensures.exact c.moves-test.false c.moves.invariant
