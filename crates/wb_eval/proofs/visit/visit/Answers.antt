use Rattle.std.proofs.Common.{sym, subst}
use Rattle.std.proofs.lemmas.Result.{IfOk-weaker}
use Rattle.wb_eval_rules.specs.declared.code.Task.TheVariants as task
use Rattle.wb_eval.proofs.DoneLemmas.{in_form, from_form, top_visited, read_ready, below_visited}
use Rattle.wb_eval.specs.Inner.Reached.{IsReady}
use Rattle.wb_eval.specs.Inner.Works.{IsReadBelow}
use Rattle.wb_eval.specs.declared.machine.Key.TheVariants as key
use Rattle.wb_eval_memo.specs.declared.sites.Step.{Step}
use Rattle.wb_eval.proofs.visit.visit.Goals as goal

pub read_below-requires-clause-whole : goal.read_below-requires-clause-whole
read_below-requires-clause-whole c = c.requires.evaluating.3.runs.machine.memo.whole

pub read_below-requires-clause-there : goal.read_below-requires-clause-there
read_below-requires-clause-there c = c.requires.evaluating.3.there

pub read_below-requires-clause-ready : goal.read_below-requires-clause-ready
read_below-requires-clause-ready c =
    let vs = c.args.evaluation.now.values.items in
    subst (IsReady c.args.store.now c.args.evaluation.now.machine.memo c.args.site) (sym c.in_ok-step-in-Read.ensures)
    (read_ready _ _ _ _ _ _ _ vs vs c.in-Read.label c.in-Read.attribute
    (in_form _ _ _ _ _ _ _ vs c.args.op.now.task (task.Read c.in-Read.label c.in-Read.attribute) c.in-Read.is c.requires.evaluating.3))

pub read-requires-clause-whole : goal.read-requires-clause-whole
read-requires-clause-whole c = c.requires.evaluating.3.runs.machine.memo.whole

pub read-requires-clause-key : goal.read-requires-clause-key
read-requires-clause-key c = c.requires.evaluating.3.there

pub returns-in_ok-step-in-Read : goal.returns-in_ok-step-in-Read
returns-in_ok-step-in-Read c = λ a operations rest ev.
    let vs = c.args.evaluation.now.values.items in
    let t = c.args.op.now.task in
    let new = c.read_below.new.evaluation in
    let form = task.Read c.in-Read.label c.in-Read.attribute in
    IfOk-weaker c.read_below.result _ _
    (λ r it. from_form _ _ _ _ _ _ _ vs t form c.in-Read.is new.values.items new.machine r
    (below_visited _ _ _ _ _ _ _ vs new.values.items c.in-Read.label c.in-Read.attribute
    (in_form _ _ _ _ _ _ _ vs t form c.in-Read.is ev) new.machine r
    (subst (λ (s : Step). IsReadBelow c.args.store.now c.args.evaluation.now.machine new.machine c.args.site s
    (λ below. key.Synthesized below c.in-Read.attribute) vs new.values.items r) c.in_ok-step-in-Read.ensures it))) c.read_below.ensures

pub returns-in-Top : goal.returns-in-Top
returns-in-Top c = λ a operations rest ev.
    let vs = c.args.evaluation.now.values.items in
    let t = c.args.op.now.task in
    let form = task.Top c.in-Top.attribute in
    IfOk-weaker c.read.result _ _
    (λ r it. from_form _ _ _ _ _ _ _ vs t form c.in-Top.is c.read.new.values.items _ r
    (top_visited _ _ _ _ _ _ _ vs c.read.new.values.items c.in-Top.attribute (in_form _ _ _ _ _ _ _ vs t form c.in-Top.is ev) r it))
    c.read.ensures

pub visit_other-requires-clause-evaluating : goal.visit_other-requires-clause-evaluating
visit_other-requires-clause-evaluating c = c.requires.evaluating

pub returns-in_default : goal.returns-in_default
returns-in_default c = c.visit_other.ensures
