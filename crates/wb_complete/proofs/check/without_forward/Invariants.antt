use Rattle.wb_flow.proofs.EachLemmas.{EachBefore}
use Rattle.wb_complete.specs.Inner.Tests.{ForwardsWhereNeeded}
use Rattle.wb_complete.proofs.check.without_forward.Given as goal

abbrev pub invariant-productions : goal.invariant-productions
invariant-productions l = EachBefore l.productions l.number (ForwardsWhereNeeded l.scope.attributes.now l.owner)
