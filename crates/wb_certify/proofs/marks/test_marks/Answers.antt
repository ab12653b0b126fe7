use Rattle.std.proofs.lemmas.Result.{IfOk-weaker}
use Rattle.wb_certify_host.specs.DeterministicHosts.{AreAcyclic}
use Rattle.wb_certify.specs.Tests.{KeepMarkers}
use Rattle.wb_certify.proofs.marks.test_marks.Goals as goal

pub returns-clause-acyclic : goal.returns-clause-acyclic
returns-clause-acyclic c =
    IfOk-weaker c.test_clashes.result (λ done. KeepMarkers c.args.resolved.now) (λ done. AreAcyclic c.args.resolved.now)
    (λ done kept. c.in_ok-test_preferences.ensures.ok) c.test_clashes.ensures.ok
