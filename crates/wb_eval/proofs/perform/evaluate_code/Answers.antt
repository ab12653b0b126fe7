use Rattle.std.proofs.Common.{rules, ◌<◌, ◌+◌, ◌≤◌, ◌^◌, List, drop, length, refl, subst}
use Rattle.wb_operations.specs.Operations.{Operations}
use Rattle.wb_eval_rules.specs.Code.{Instruction, instruction_of, instructions, way_of}
use Rattle.wb_eval.specs.Inner.Works.{IsEvaluating, HasDone}
use Rattle.wb_eval.proofs.FollowLemmas.{ends_on_top}
use Rattle.wb_eval.proofs.PerformLemmas.{code_at, code_past, followed, less_left, stopped, truth_for}
use Rattle.wb_eval.proofs.SteadyLemmas.{extended_twice, same_machine, same_store, same_twice}
use Rattle.wb_eval.proofs.perform.evaluate_code.Goals as goal

pub ops-init : goal.ops-init
ops-init g c =
    record {
      evaluating = c.requires.evaluating;
      same = same_machine c.args.evaluation.now.machine;
      store = same_store c.args.store.now;
    }

pub perform-requires-clause-evaluating : goal.perform-requires-clause-evaluating
perform-requires-clause-evaluating g c =
    let a = c.args.context.now.definitions.attributes.now in
    let operations : Operations = record { signatures = c.args.context.now.operations.now.signatures; meaning = g.M.Meaning.meaning } in
    let code = c.args.expression.now.code.now in
    let m = c.ops.evaluation in
    let within : c.ops.at < length code = search rules in
    let left = code_at code c.ops.at c.index-code-at.result within c.index-code-at.is in (
      a,
      drop (c.ops.at + 1) (instructions code),
      subst (λ (l : List Instruction). IsEvaluating a operations c.ops.store m.machine c.args.expression.now.site l m.values.items) left
          c.ops.invariant.evaluating,
    )

pub perform-requires-clause-kept : goal.perform-requires-clause-kept
perform-requires-clause-kept g c = c.requires.kept

pub returns-in_err-stop-clause-store : goal.returns-in_err-stop-clause-store
returns-in_err-stop-clause-store g c =
    extended_twice c.args.store.now c.ops.store c.perform.new.store c.ops.invariant.store c.perform.ensures.store

pub returns-in-Some-clause-store : goal.returns-in-Some-clause-store
returns-in-Some-clause-store g c =
    extended_twice c.args.store.now c.ops.store c.perform.new.store c.ops.invariant.store c.perform.ensures.store

pub returns-in-Some-clause-ran : goal.returns-in-Some-clause-ran
returns-in-Some-clause-ran g c =
    let a = c.args.context.now.definitions.attributes.now in
    let operations : Operations = record { signatures = c.args.context.now.operations.now.signatures; meaning = g.M.Meaning.meaning } in
    let x = c.args.expression.now in
    let code = x.code.now in
    let m = c.ops.evaluation in
    let new = c.perform.new.evaluation in
    let op = c.index-code-at.result in
    let rest = drop (c.ops.at + 1) (instructions code) in
    let within : c.ops.at < length code = search rules in
    let left = code_at code c.ops.at op within c.index-code-at.is in
    let ev = subst (λ (l : List Instruction). IsEvaluating a operations c.ops.store m.machine x.site l m.values.items) left
    c.ops.invariant.evaluating in
    let (steady, after) = subst
    (HasDone a operations c.perform.new.store m.machine new.machine x.site (instruction_of op) (way_of op.after) rest
    new.values.items) c.in-Some.is (c.in_ok-stop.ensures.done a rest ev) in (
      same_twice c.args.evaluation.now.machine m.machine new.machine c.ops.invariant.same steady,
      stopped a operations c.perform.new.store new.machine x.site x c.ops.at (instruction_of op) (way_of op.after) rest new.values.items
          c.in-Some.stop c.stopped.result refl left after c.stopped.ensures,
    )

pub follow-at-requires-clause-room : goal.follow-at-requires-clause-room
follow-at-requires-clause-room g c =
    let within : c.ops.at < length c.args.expression.now.code.now = search rules in search rules

pub follow-at-requires-clause-truth : goal.follow-at-requires-clause-truth
follow-at-requires-clause-truth g c =
    let a = c.args.context.now.definitions.attributes.now in
    let operations : Operations = record { signatures = c.args.context.now.operations.now.signatures; meaning = g.M.Meaning.meaning } in
    let x = c.args.expression.now in
    let code = x.code.now in
    let m = c.ops.evaluation in
    let new = c.perform.new.evaluation in
    let op = c.index-code-at.result in
    let rest = drop (c.ops.at + 1) (instructions code) in
    let within : c.ops.at < length code = search rules in
    let left = code_at code c.ops.at op within c.index-code-at.is in
    let ev = subst (λ (l : List Instruction). IsEvaluating a operations c.ops.store m.machine x.site l m.values.items) left
    c.ops.invariant.evaluating in
    let (steady, going) = subst
    (HasDone a operations c.perform.new.store m.machine new.machine x.site (instruction_of op) (way_of op.after) rest
    new.values.items) c.in_default.is (c.in_ok-stop.ensures.done a rest ev) in
    truth_for a operations c.perform.new.store new.machine x.site op.after rest new.values.items going

pub ops-preserved : goal.ops-preserved
ops-preserved g c =
    let a = c.args.context.now.definitions.attributes.now in
    let operations : Operations = record { signatures = c.args.context.now.operations.now.signatures; meaning = g.M.Meaning.meaning } in
    let x = c.args.expression.now in
    let code = x.code.now in
    let m = c.ops.evaluation in
    let new = c.perform.new.evaluation in
    let op = c.index-code-at.result in
    let rest = drop (c.ops.at + 1) (instructions code) in
    let within : c.ops.at < length code = search rules in
    let short : length code < 2 ^ 64 = search rules in
    let left = code_at code c.ops.at op within c.index-code-at.is in
    let ev = subst (λ (l : List Instruction). IsEvaluating a operations c.ops.store m.machine x.site l m.values.items) left
    c.ops.invariant.evaluating in
    let (steady, going) = subst
    (HasDone a operations c.perform.new.store m.machine new.machine x.site (instruction_of op) (way_of op.after) rest
    new.values.items) c.in_default.is (c.in_ok-stop.ensures.done a rest ev) in
    record {
      evaluating = followed a operations c.perform.new.store new.machine x.site code op.after new.values.items c.follow-at.new.values.items
          c.ops.at
          c.follow-at.result short c.follow-at.ensures going;
      same = same_twice c.args.evaluation.now.machine m.machine new.machine c.ops.invariant.same steady;
      store = extended_twice c.args.store.now c.ops.store c.perform.new.store c.ops.invariant.store c.perform.ensures.store;
    }

pub ops-smaller : goal.ops-smaller
ops-smaller g c =
    let code = c.args.expression.now.code.now in
    let within : c.ops.at < length code = search rules in
    let short : length code < 2 ^ 64 = search rules in
    less_left c.index-code-at.result.after c.perform.new.evaluation.values.items c.follow-at.new.values.items c.ops.at c.follow-at.result
    (length code)
    c.follow-at.ensures within short

pub returns-clause-ran : goal.returns-clause-ran
returns-clause-ran g c =
    let a = c.args.context.now.definitions.attributes.now in
    let operations : Operations = record { signatures = c.args.context.now.operations.now.signatures; meaning = g.M.Meaning.meaning } in
    let x = c.args.expression.now in
    let m = c.ops.evaluation in
    let past : length x.code.now ≤ c.ops.at = search rules in
    let ended = subst (λ (l : List Instruction). IsEvaluating a operations c.ops.store m.machine x.site l m.values.items)
    (code_past x.code.now c.ops.at past) c.ops.invariant.evaluating in (
      c.ops.invariant.same,
      ends_on_top a operations c.ops.store m.machine x.site m.values.items ended,
    )

pub returns-clause-store : goal.returns-clause-store
returns-clause-store g c = c.ops.invariant.store
