use Rattle.wb_flow.proofs.EachLemmas.{EachBefore}
use Rattle.wb_complete.specs.Inner.ForwardTests.{KeepsFrom}
use Rattle.wb_complete.proofs.equations.check_defined.Given as goal

abbrev pub invariant-vertices : goal.invariant-vertices
invariant-vertices l = EachBefore l.reading.tested.now.graph.now.vertices l.start
    (KeepsFrom l.reading.tested.now.scope.now.attributes.now l.reading.tested.now.production.now)
