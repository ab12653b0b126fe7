use Rattle.wb_tests_grammars.proofs.ListedLemmas.{row_more}
use Rattle.wb_tests_grammars.proofs.parts.add_row.Goals as goal

pub moves-preserved : goal.moves-preserved
moves-preserved c =
    row_more c.args.state c.args.row.now c.moves.place c.args.moves.now.items c.moves.moves.items c.push.new.list.items
    c.move_in-found.result c.move_in-found.ensures c.in_ok-push.ensures.ok c.moves.invariant
