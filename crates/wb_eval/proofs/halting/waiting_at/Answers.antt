use Rattle.wb_eval.proofs.BeginLemmas.{fresh}
use Rattle.wb_eval.proofs.SteadyLemmas.{same_store}
use Rattle.wb_eval.proofs.halting.waiting_at.Goals as goal

pub returns-in_err-machine-clause-store : goal.returns-in_err-machine-clause-store
returns-in_err-machine-clause-store g c = same_store c.args.store.now

pub halt_turns-requires-clause-fresh : goal.halt_turns-requires-clause-fresh
halt_turns-requires-clause-fresh g c =
    fresh c.in_ok-machine.machine c.args.root c.args.attribute c.in_ok-machine.ensures c.requires.evaluable c.requires.there
    c.requires.asked

pub halt_turns-requires-clause-steps : goal.halt_turns-requires-clause-steps
halt_turns-requires-clause-steps g c = c.requires.steps

pub halt_turns-requires-clause-rules : goal.halt_turns-requires-clause-rules
halt_turns-requires-clause-rules g c = c.requires.rules

pub halt_turns-requires-clause-kept : goal.halt_turns-requires-clause-kept
halt_turns-requires-clause-kept g c = c.requires.kept

pub halt_turns-requires-clause-coded : goal.halt_turns-requires-clause-coded
halt_turns-requires-clause-coded g c = c.requires.coded
