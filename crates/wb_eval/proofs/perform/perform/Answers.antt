use Rattle.std.proofs.lemmas.Result.{IfOk-weaker}
use Rattle.wb_eval.proofs.SteadyLemmas.{same_store}
use Rattle.wb_eval.proofs.PerformLemmas.{build_here, call_here, build_done, call_done, stay_done}
use Rattle.wb_eval.proofs.perform.perform.Goals as goal

pub build_tree-requires-clause-enough : goal.build_tree-requires-clause-enough
build_tree-requires-clause-enough g c =
    (build_here c.args.evaluation.now.values.items c.args.op.now.task c.requires.evaluating.2 _ _ c.in-Build.is).0

pub build_tree-requires-clause-inside : goal.build_tree-requires-clause-inside
build_tree-requires-clause-inside g c =
    (build_here c.args.evaluation.now.values.items c.args.op.now.task c.requires.evaluating.2 _ _ c.in-Build.is).1

pub call-requires-clause-enough : goal.call-requires-clause-enough
call-requires-clause-enough g c =
    (call_here c.args.evaluation.now.values.items c.args.op.now.task c.requires.evaluating.2 _ _ c.in-Call.is).0

pub call-requires-clause-there : goal.call-requires-clause-there
call-requires-clause-there g c =
    (call_here c.args.evaluation.now.values.items c.args.op.now.task c.requires.evaluating.2 _ _ c.in-Call.is).1

pub call-requires-clause-fits : goal.call-requires-clause-fits
call-requires-clause-fits g c =
    (call_here c.args.evaluation.now.values.items c.args.op.now.task c.requires.evaluating.2 _ _ c.in-Call.is).2

pub call-requires-clause-kept : goal.call-requires-clause-kept
call-requires-clause-kept g c = c.requires.kept

pub returns-in_ok-build_tree-in-Build-clause-done : goal.returns-in_ok-build_tree-in-Build-clause-done
returns-in_ok-build_tree-in-Build-clause-done g c = λ a rest ev.
    build_done c.args.evaluation.now.values.items c.args.op.now.task ev _ _ c.in-Build.is c.build_tree.new.store
    c.build_tree.new.values.items
    c.in_ok-build_tree-in-Build.ensures.built

pub returns-in_ok-build_tree-in-Build-clause-store : goal.returns-in_ok-build_tree-in-Build-clause-store
returns-in_ok-build_tree-in-Build-clause-store g c = c.build_tree.ensures.store

pub returns-in_err-build_tree-in-Build-clause-store : goal.returns-in_err-build_tree-in-Build-clause-store
returns-in_err-build_tree-in-Build-clause-store g c = c.build_tree.ensures.store

pub returns-in-Call-clause-done : goal.returns-in-Call-clause-done
returns-in-Call-clause-done g c = λ a rest ev.
    IfOk-weaker c.call.result _ _
    (λ r done. call_done c.args.evaluation.now.values.items c.args.op.now.task ev _ _ c.in-Call.is c.call.new.values.items r done)
    c.call.ensures

pub returns-in-Call-clause-store : goal.returns-in-Call-clause-store
returns-in-Call-clause-store g c = same_store c.args.store.now

pub returns-in-Stay-clause-done : goal.returns-in-Stay-clause-done
returns-in-Stay-clause-done g c = λ a rest ev. stay_done c.args.evaluation.now.values.items c.args.op.now.task ev c.in-Stay.is

pub returns-in-Stay-clause-store : goal.returns-in-Stay-clause-store
returns-in-Stay-clause-store g c = same_store c.args.store.now

pub returns-in_default-clause-store : goal.returns-in_default-clause-store
returns-in_default-clause-store g c = same_store c.args.store.now

pub returns-in_default-clause-done : goal.returns-in_default-clause-done
returns-in_default-clause-done g c = λ a rest ev. c.visit_or_wait.ensures a _ rest ev
