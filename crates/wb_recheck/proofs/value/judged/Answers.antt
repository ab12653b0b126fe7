use Rattle.std.proofs.Common.{inr}
use Rattle.wb_recheck.proofs.HostLemmas.{grammar_value, ready}
use Rattle.wb_recheck.proofs.value.judged.Goals as goal

pub judge_host-requires-clause-ready : goal.judge_host-requires-clause-ready
judge_host-requires-clause-ready c =
    ready c.args.resolved.now c.args.grammar c.args.facts.now c.args.looked.kernels c.args.looked.lookaheads c.args.resolved.now.grammar
    c.requires.facts c.requires.kernels c.requires.lookaheads

pub returns-in-Err-clause-refused : goal.returns-in-Err-clause-refused
returns-in-Err-clause-refused c = λ text certificate.
    grammar_value c.args.resolved.now text c.requires.grammar c.in-Err.refusal c.of_determinism.result c.of_determinism.ensures
    c.in-Err.ensures.refused (inr certificate)
