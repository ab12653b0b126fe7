use Rattle.wb_determinism_host.proofs.JudgeLemmas.{some_host}
use Rattle.wb_determinism_host.proofs.judge.judge_as.Goals as goal

pub returns-in-Ok-clause-ok : goal.returns-in-Ok-clause-ok
returns-in-Ok-clause-ok c =
    some_host c.args.resolved.now c.args.resolved.now.grammar c.args.first c.args.grammar c.args.facts.now c.args.kernels c.args.lookaheads
    c.requires.ready c.in-Ok.ensures.kernels c.in-Ok.ensures.ok
