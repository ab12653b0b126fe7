use Rattle.std.proofs.Common.{rules, ◌<◌, ◌^◌, length, subst, sym}
use Rattle.wb_operations.specs.Operations.{Operations}
use Rattle.wb_eval.proofs.PerformLemmas.{followed, going_here, truth_for}
use Rattle.wb_eval_rules.specs.declared.code.Op.{Op}
use Rattle.wb_eval.specs.Inner.Works.{HasTruthFor, IsFollowed, IsTurn}
use Rattle.wb_eval.proofs.run.run.Goals as goal

pub bounds-frame-frame : goal.bounds-frame-frame
bounds-frame-frame g c =
    let a = c.args.context.now.definitions.attributes.now in
    let operations : Operations = record { signatures = c.args.context.now.operations.now.signatures; meaning = g.M.Meaning.meaning } in
    let m = c.args.evaluation.now in
    let f = c.in-Some.frame in
    let turn = subst (IsTurn a operations c.args.store.now m.machine m.values.items) c.in-Some.is c.requires.turn in
    turn.at_within

pub offset_bounds-frame-frame : goal.offset_bounds-frame-frame
offset_bounds-frame-frame g c =
    let a = c.args.context.now.definitions.attributes.now in
    let operations : Operations = record { signatures = c.args.context.now.operations.now.signatures; meaning = g.M.Meaning.meaning } in
    let m = c.args.evaluation.now in
    let f = c.in-Some.frame in
    let turn = subst (IsTurn a operations c.args.store.now m.machine m.values.items) c.in-Some.is c.requires.turn in
    let within : f.at < length f.code.now = turn.at_within in
    search rules

pub follow-at-requires-clause-room : goal.follow-at-requires-clause-room
follow-at-requires-clause-room g c =
    let a = c.args.context.now.definitions.attributes.now in
    let operations : Operations = record { signatures = c.args.context.now.operations.now.signatures; meaning = g.M.Meaning.meaning } in
    let m = c.args.evaluation.now in
    let f = c.in-Some.frame in
    let turn = subst (IsTurn a operations c.args.store.now m.machine m.values.items) c.in-Some.is c.requires.turn in
    let within : f.at < length f.code.now = turn.at_within in
    search rules

pub follow-at-requires-clause-truth : goal.follow-at-requires-clause-truth
follow-at-requires-clause-truth g c =
    let a = c.args.context.now.definitions.attributes.now in
    let operations : Operations = record { signatures = c.args.context.now.operations.now.signatures; meaning = g.M.Meaning.meaning } in
    let m = c.args.evaluation.now in
    let f = c.in-Some.frame in
    let turn = subst (IsTurn a operations c.args.store.now m.machine m.values.items) c.in-Some.is c.requires.turn in
    let op = c.index-frame-frame.result in
    subst (λ (o : Op). HasTruthFor o.after m.values.items) c.index-frame-frame.is
    (truth_for a operations c.args.store.now m.machine f.site op.after _ m.values.items
    (going_here f m.values.items op turn c.index-frame-frame.is))

pub evaluate_code-requires-clause-evaluating : goal.evaluate_code-requires-clause-evaluating
evaluate_code-requires-clause-evaluating g c =
    let a = c.args.context.now.definitions.attributes.now in
    let operations : Operations = record { signatures = c.args.context.now.operations.now.signatures; meaning = g.M.Meaning.meaning } in
    let m = c.args.evaluation.now in
    let f = c.in-Some.frame in
    let turn = subst (IsTurn a operations c.args.store.now m.machine m.values.items) c.in-Some.is c.requires.turn in
    let op = c.index-frame-frame.result in
    let short : length f.code.now < 2 ^ 64 = search rules in
    followed a operations c.args.store.now m.machine f.site f.code.now op.after m.values.items c.follow-at.new.values.items f.at
    c.follow-at.result short
    (subst (λ (o : Op). IsFollowed o.after m.values.items c.follow-at.new.values.items f.at c.follow-at.result) (sym c.index-frame-frame.is)
    c.follow-at.ensures) (going_here f m.values.items op turn c.index-frame-frame.is)

pub evaluate_code-requires-clause-kept : goal.evaluate_code-requires-clause-kept
evaluate_code-requires-clause-kept g c = c.requires.kept

pub begin-requires-clause-whole : goal.begin-requires-clause-whole
begin-requires-clause-whole g c =
    let a = c.args.context.now.definitions.attributes.now in
    let operations : Operations = record { signatures = c.args.context.now.operations.now.signatures; meaning = g.M.Meaning.meaning } in
    let m = c.args.evaluation.now in
    subst (IsTurn a operations c.args.store.now m.machine m.values.items) c.in-None.is c.requires.turn

pub begin-requires-clause-rules : goal.begin-requires-clause-rules
begin-requires-clause-rules g c = c.requires.rules

pub begin-requires-clause-coded : goal.begin-requires-clause-coded
begin-requires-clause-coded g c = c.requires.coded

pub begin-requires-clause-kept : goal.begin-requires-clause-kept
begin-requires-clause-kept g c = c.requires.kept

pub returns-in-Some-clause-ran : goal.returns-in-Some-clause-ran
returns-in-Some-clause-ran g c = c.evaluate_code.ensures.ran

pub returns-in-Some-clause-store : goal.returns-in-Some-clause-store
returns-in-Some-clause-store g c = c.evaluate_code.ensures.store

pub returns-in-None-clause-ran : goal.returns-in-None-clause-ran
returns-in-None-clause-ran g c = c.begin.ensures.ran

pub returns-in-None-clause-store : goal.returns-in-None-clause-store
returns-in-None-clause-store g c = c.begin.ensures.store
