use Rattle.std.proofs.lemmas.Result.{IfOk-weaker}
use Rattle.wb_determinism_lookaheads.proofs.test.is_all_passed.Goals as goal

pub returns : goal.returns
returns c =
    IfOk-weaker c.are_passed_with-answer.result _ _
    (λ answer f holds. record {
      starts = c.in_ok-are_started.ensures c.if-not-branch.false;
      slots = λ i j lt. f holds i j lt;
    }) c.are_passed_with-answer.ensures
