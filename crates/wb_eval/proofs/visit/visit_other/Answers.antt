use Rattle.std.proofs.lemmas.Int.{to_z-of_z}
use Rattle.std.proofs.Common.{rules, FitsSigned, w64, subst}
use Rattle.std.proofs.lemmas.Result.{IfOk-weaker}
use Rattle.wb_eval_rules.specs.declared.code.Task.TheVariants as task
use Rattle.wb_eval.proofs.DoneLemmas.{in_form, from_form, place_there, place_visited, int_visited, text_visited, truth_visited}
use Rattle.wb_eval.proofs.DoneLemmas.{forward_visited}
use Rattle.wb_eval.specs.Inner.Works.{IsPushed}
use Rattle.wb_values.specs.declared.value.Value.TheVariants as stored
use Rattle.wb_eval.proofs.visit.visit_other.Goals as goal

pub visit_label-requires-clause-whole : goal.visit_label-requires-clause-whole
visit_label-requires-clause-whole c = c.requires.evaluating.3.runs.machine.memo.whole

pub visit_label-requires-clause-there : goal.visit_label-requires-clause-there
visit_label-requires-clause-there c = c.requires.evaluating.3.there

pub visit_label-requires-clause-label : goal.visit_label-requires-clause-label
visit_label-requires-clause-label c =
    place_there _ _ _ _ _ _ _ c.args.evaluation.now.values.items c.args.op.now.task c.in-Label.place c.in-Label.is c.requires.evaluating.3

pub read_below-requires-clause-whole : goal.read_below-requires-clause-whole
read_below-requires-clause-whole c = c.requires.evaluating.3.runs.machine.memo.whole

pub read_below-requires-clause-there : goal.read_below-requires-clause-there
read_below-requires-clause-there c = c.requires.evaluating.3.there

pub returns-in-Int : goal.returns-in-Int
returns-in-Int c = λ a operations rest ev.
    let vs = c.args.evaluation.now.values.items in
    let new = c.visit_value.new.values.items in
    let t = c.args.op.now.task in
    let form = task.Int c.in-Int.number in
    let fits : FitsSigned w64 c.in-Int.number = search rules in
    let number = to_z-of_z w64 c.in-Int.number fits in
    IfOk-weaker c.visit_value.result _ _
    (λ r it. from_form _ _ _ _ _ _ _ vs t form c.in-Int.is new _ r
    (int_visited _ _ _ _ _ _ _ vs new c.in-Int.number (in_form _ _ _ _ _ _ _ vs t form c.in-Int.is ev) r
    (subst (λ z. IsPushed vs new (stored.Int z) r) number it))) c.visit_value.ensures

pub returns-in-Text : goal.returns-in-Text
returns-in-Text c = λ a operations rest ev.
    let vs = c.args.evaluation.now.values.items in
    let t = c.args.op.now.task in
    IfOk-weaker c.visit_text.result _ _
    (λ r it. from_form _ _ _ _ _ _ _ vs t (task.Text c.in-Text.text) c.in-Text.is c.visit_text.new.values.items _ r
    (text_visited _ _ _ _ _ _ _ vs c.visit_text.new.values.items c.in-Text.text
    (in_form _ _ _ _ _ _ _ vs t (task.Text c.in-Text.text) c.in-Text.is ev) r it))
    c.visit_text.ensures

pub returns-in-Bool : goal.returns-in-Bool
returns-in-Bool c = λ a operations rest ev.
    let vs = c.args.evaluation.now.values.items in
    let t = c.args.op.now.task in
    IfOk-weaker c.visit_value-in-Bool.result _ _
    (λ r it. from_form _ _ _ _ _ _ _ vs t (task.Bool c.in-Bool.truth) c.in-Bool.is c.visit_value-in-Bool.new.values.items _ r
    (truth_visited _ _ _ _ _ _ _ vs c.visit_value-in-Bool.new.values.items c.in-Bool.truth
    (in_form _ _ _ _ _ _ _ vs t (task.Bool c.in-Bool.truth) c.in-Bool.is ev) r
    it)) c.visit_value-in-Bool.ensures

pub returns-in-Label : goal.returns-in-Label
returns-in-Label c = λ a operations rest ev.
    let vs = c.args.evaluation.now.values.items in
    let new = c.visit_label.new.evaluation in
    IfOk-weaker c.visit_label.result _ _
    (λ r it. place_visited _ _ _ _ _ _ _ vs c.args.op.now.task c.in-Label.place c.in-Label.is ev new.values.items new.machine r it)
    c.visit_label.ensures

pub returns-in-Forward : goal.returns-in-Forward
returns-in-Forward c = λ a operations rest ev.
    let vs = c.args.evaluation.now.values.items in
    let t = c.args.op.now.task in
    let new = c.read_below.new.evaluation in
    let form = task.Forward c.in-Forward.attribute in
    IfOk-weaker c.read_below.result _ _
    (λ r it. from_form _ _ _ _ _ _ _ vs t form c.in-Forward.is new.values.items new.machine r
    (forward_visited _ _ _ _ _ _ _ vs new.values.items c.in-Forward.attribute
    (in_form _ _ _ _ _ _ _ vs t form c.in-Forward.is ev) new.machine r it))
    c.read_below.ensures
