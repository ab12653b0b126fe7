use Rattle.wb_flow.proofs.EachLemmas.{EachBefore}
use Rattle.wb_complete.specs.Inner.ForwardTests.{KeepsWhereBridging}
use Rattle.wb_complete.proofs.forward.check_in.Given as goal

abbrev pub invariant-productions : goal.invariant-productions
invariant-productions l = EachBefore l.productions l.number (KeepsWhereBridging l.scope.attributes.now l.extension)
