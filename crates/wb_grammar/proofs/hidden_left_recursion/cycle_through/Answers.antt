use Rattle.std.proofs.lemmas.Result.{IfOk-weaker}
use Rattle.wb_grammar.proofs.TogetherLemmas.{found_back}
use Rattle.wb_grammar.proofs.hidden_left_recursion.cycle_through.Goals as goal

pub returns : goal.returns
returns c =
    let corner = rw c.in-Some.is at c.in_ok-corner.ensures in
    IfOk-weaker c.path.result _ _
    (λ found h. found_back _ c.args.corners.now c.args.hidden.now c.in-Some.corner corner.0 corner.1 found h) c.path.ensures
