use Rattle.std.proofs.Common.{◌∙◌, ◌≤◌, ◌<◌, refl, sym, subst, arith}
use Rattle.wb_operations.specs.Operations.{Operations}
use Rattle.wb_eval.proofs.AnsweringLemmas.{turns_same}
use Rattle.wb_eval.proofs.BeginLemmas.{begun_ahead, first_within}
use Rattle.wb_eval.proofs.HaltLemmas.{halts_before, halts_here}
use Rattle.wb_eval.proofs.SteadyLemmas.{extended_twice, same_store}
use Rattle.wb_eval.specs.Inner.Answering.{turns_left, IsTurned}
use Rattle.wb_eval.specs.Inner.Machines.{IsMachine}
use Rattle.wb_eval.proofs.halting.halt_turns.Goals as goal

pub start-requires : goal.start-requires
start-requires g c = let none = c.requires.fresh.blank.entered in omega (arith, none)

pub returns-in_err-start-clause-store : goal.returns-in_err-start-clause-store
returns-in_err-start-clause-store g c = same_store c.args.store.now

pub turns-init : goal.turns-init
turns-init g c =
    let context = c.args.context.now in
    let operations : Operations = record { signatures = context.operations.now.signatures; meaning = g.M.Meaning.meaning } in
    let ahead = begun_ahead c.args.evaluation.now.machine c.start.new.self c.requires.fresh c.in_ok-start.ensures in
    record {
      turn = subst (λ vs. IsMachine context.definitions.attributes.now operations c.args.store.now vs c.start.new.self)
          (sym c.requires.values)
          ahead.whole;
      root = refl;
      attribute = refl;
      within = first_within c.args.evaluation.now.machine c.start.new.self c.args.context.now.steps c.requires.fresh ahead c.requires.steps;
      store = same_store c.args.store.now;
    }

pub run-requires-clause-turn : goal.run-requires-clause-turn
run-requires-clause-turn g c = c.turns.invariant.turn

pub run-requires-clause-rules : goal.run-requires-clause-rules
run-requires-clause-rules g c = c.requires.rules

pub run-requires-clause-coded : goal.run-requires-clause-coded
run-requires-clause-coded g c = c.requires.coded

pub run-requires-clause-kept : goal.run-requires-clause-kept
run-requires-clause-kept g c = c.requires.kept

pub proceed-requires-clause-ran : goal.proceed-requires-clause-ran
proceed-requires-clause-ran g c = (_, _, _, c.in_ok-ran.ensures.ran.1)

pub proceed-requires-clause-within : goal.proceed-requires-clause-within
proceed-requires-clause-within g c =
    subst (λ n. n ≤ c.args.context.now.steps) (sym c.in_ok-ran.ensures.ran.0.same.entered) c.turns.invariant.within

pub returns-in_err-ran-clause-store : goal.returns-in_err-ran-clause-store
returns-in_err-ran-clause-store g c =
    extended_twice c.args.store.now c.turns.store c.run.new.store c.turns.invariant.store c.run.ensures.store

pub returns-in-Some-clause-store : goal.returns-in-Some-clause-store
returns-in-Some-clause-store g c =
    extended_twice c.args.store.now c.turns.store c.run.new.store c.turns.invariant.store c.run.ensures.store

pub returns-in-Some-clause-waits : goal.returns-in-Some-clause-waits
returns-in-Some-clause-waits g c =
    let context = c.args.context.now in
    let operations : Operations = record { signatures = context.operations.now.signatures; meaning = g.M.Meaning.meaning } in
    let m = c.run.new.evaluation.machine in
    let (same, ran) = c.in_ok-ran.ensures.ran in
    halts_before context.definitions.attributes.now operations c.run.new.store m.root c.args.evaluation.now.machine.root m.attribute
    c.args.evaluation.now.machine.attribute context.steps m c.in-Some.halt
    (same.same.root ∙ c.turns.invariant.root ∙ c.in_ok-start.ensures.root)
    (same.same.attribute ∙ c.turns.invariant.attribute ∙ c.in_ok-start.ensures.attribute)
    (halts_here context.definitions.attributes.now operations c.run.new.store m c.run.new.evaluation.values.items context.steps
    (subst (λ n. n ≤ context.steps) (sym same.same.entered) c.turns.invariant.within) c.in_ok-ran.ran ran c.in-Some.halt
    c.in-Some.ensures)

pub returns-in_err-proceed-clause-store : goal.returns-in_err-proceed-clause-store
returns-in_err-proceed-clause-store g c =
    extended_twice c.args.store.now c.turns.store c.run.new.store c.turns.invariant.store c.run.ensures.store

pub returns-in-Over-clause-store : goal.returns-in-Over-clause-store
returns-in-Over-clause-store g c =
    extended_twice c.args.store.now c.turns.store c.run.new.store c.turns.invariant.store c.run.ensures.store

pub turns-preserved : goal.turns-preserved
turns-preserved g c =
    let context = c.args.context.now in
    let operations : Operations = record { signatures = context.operations.now.signatures; meaning = g.M.Meaning.meaning } in
    let m = c.run.new.evaluation.machine in
    let (same, ran) = c.in_ok-ran.ensures.ran in
    let goes = subst (IsTurned context.definitions.attributes.now operations c.run.new.store m c.proceed.new.evaluation.machine
    c.proceed.new.evaluation.values.items context.steps) c.in-Goes.is (c.in_ok-proceed.ensures _ _ _ ran) in
    record {
      turn = goes.turn;
      root = goes.root ∙ same.same.root ∙ c.turns.invariant.root;
      attribute = goes.attribute ∙ same.same.attribute ∙ c.turns.invariant.attribute;
      within = goes.within;
      store = extended_twice c.args.store.now c.turns.store c.run.new.store c.turns.invariant.store c.run.ensures.store;
    }

pub turns-smaller : goal.turns-smaller
turns-smaller g c =
    let context = c.args.context.now in
    let operations : Operations = record { signatures = context.operations.now.signatures; meaning = g.M.Meaning.meaning } in
    let m = c.run.new.evaluation.machine in
    let (same, ran) = c.in_ok-ran.ensures.ran in
    let goes = subst (IsTurned context.definitions.attributes.now operations c.run.new.store m c.proceed.new.evaluation.machine
    c.proceed.new.evaluation.values.items context.steps) c.in-Goes.is (c.in_ok-proceed.ensures _ _ _ ran) in
    subst (λ n. turns_left context.steps c.proceed.new.evaluation.machine < n) (turns_same context.steps c.turns.evaluation.machine m same)
    goes.less
