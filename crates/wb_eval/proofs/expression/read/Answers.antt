use Rattle.std.proofs.Common.{◌∙◌, sym}
use Rattle.std.proofs.lemmas.Result.{IfOk-weaker}
use Rattle.wb_eval.proofs.ReachedLemmas.{read_pushed}
use Rattle.wb_eval.proofs.expression.read.Goals as goal

pub returns-in-Some : goal.returns-in-Some
returns-in-Some c =
    IfOk-weaker c.visit_value.result _ _
    (read_pushed c.args.machine.now c.args.values.now.items c.visit_value.new.values.items c.args.key c.in-Some.value
    (sym c.in_ok-value.ensures ∙ c.in-Some.is)) c.visit_value.ensures
