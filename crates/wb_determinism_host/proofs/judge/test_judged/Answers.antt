use Rattle.std.proofs.lemmas.Result.{IfOk-weaker}
use Rattle.wb_determinism_contexts.specs.Considered.{HasNoClashAt}
use Rattle.wb_marking_holes.specs.Holes.{with_holes_of}
use Rattle.wb_determinism_host.specs.Hosts.{IsDeterministicBy}
use Rattle.wb_determinism_host.specs.Inner.Judging.{judged_lexicon}
use Rattle.wb_determinism_host.proofs.JudgeLemmas.{deterministic}
use Rattle.wb_determinism_host.proofs.judge.test_judged.Goals as goal

pub returns-clause-ok : goal.returns-clause-ok
returns-clause-ok c =
    let x = c.args.host.now in
    IfOk-weaker c.test_clashes-answer.result
    (λ done. HasNoClashAt (with_holes_of x.grammar.now x.resolved.now.extensible) (judged_lexicon x))
    (λ done. IsDeterministicBy x.resolved.now x.grammar.now (judged_lexicon x))
    (λ done clear. deterministic x c.requires c.in_ok-valid.ensures.no_conflict clear) c.test_clashes-answer.ensures.ok
