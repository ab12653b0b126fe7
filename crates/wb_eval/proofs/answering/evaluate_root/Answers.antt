use Rattle.std.proofs.lemmas.Result.{IfOk-weaker}
use Rattle.wb_eval.proofs.AnsweringLemmas.{answered_as}
use Rattle.wb_eval.proofs.BeginLemmas.{fresh}
use Rattle.wb_eval.proofs.SteadyLemmas.{same_store}
use Rattle.wb_eval.proofs.answering.evaluate_root.Goals as goal

pub returns-in_err-machine-clause-store : goal.returns-in_err-machine-clause-store
returns-in_err-machine-clause-store g c = same_store c.args.store.now

pub take_turns-answer-requires-clause-fresh : goal.take_turns-answer-requires-clause-fresh
take_turns-answer-requires-clause-fresh g c =
    fresh c.in_ok-machine.machine c.args.root c.args.attribute c.in_ok-machine.ensures c.requires.evaluable c.requires.there
    c.requires.asked

pub take_turns-answer-requires-clause-steps : goal.take_turns-answer-requires-clause-steps
take_turns-answer-requires-clause-steps g c = c.requires.steps

pub take_turns-answer-requires-clause-rules : goal.take_turns-answer-requires-clause-rules
take_turns-answer-requires-clause-rules g c = c.requires.rules

pub take_turns-answer-requires-clause-kept : goal.take_turns-answer-requires-clause-kept
take_turns-answer-requires-clause-kept g c = c.requires.kept

pub returns-clause-answered : goal.returns-clause-answered
returns-clause-answered g c =
    IfOk-weaker c.take_turns-answer.result _ _
    (λ e. answered_as c.in_ok-machine.machine c.args.root c.args.attribute c.args.context.now.steps e c.in_ok-machine.ensures)
    c.take_turns-answer.ensures.answered

pub returns-clause-store : goal.returns-clause-store
returns-clause-store g c = c.take_turns-answer.ensures.store

pub take_turns-answer-requires-clause-coded : goal.take_turns-answer-requires-clause-coded
take_turns-answer-requires-clause-coded g c = c.requires.coded
