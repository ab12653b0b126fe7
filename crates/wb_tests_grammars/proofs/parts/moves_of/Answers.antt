use Rattle.std.proofs.Common.{◌≡◌, arith, subst}
use Rattle.wb_items.specs.Kernels.{count_of}
use Rattle.wb_tests_grammars.specs.Listed.{AreMovesUpTo}
use Rattle.wb_tests_grammars.proofs.ListedLemmas.{moves_more}
use Rattle.wb_tests_grammars.proofs.parts.moves_of.Goals as goal

pub states-preserved : goal.states-preserved
states-preserved c =
    moves_more c.args.kernels.now c.states.state c.moves.result.now c.states.moves.items c.add_row.new.moves.items c.moves.ensures.exact
    c.in_ok-add_row.ensures c.states.invariant

pub returns : goal.returns
returns c =
    let end = c.count-state-end.ensures.count in
    let done : c.states.state ≡ count_of c.args.kernels.now = omega (arith, end) in
    subst (AreMovesUpTo c.args.kernels.now c.states.moves.items) done c.states.invariant
