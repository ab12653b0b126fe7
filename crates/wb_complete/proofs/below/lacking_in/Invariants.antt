use Rattle.wb_flow.proofs.EachLemmas.{EachBefore}
use Rattle.wb_complete.specs.Inner.Tests.{DefinesRead}
use Rattle.wb_complete.proofs.below.lacking_in.Given as goal

abbrev pub invariant-nodes : goal.invariant-nodes
invariant-nodes l = EachBefore l.nodes l.node-index (DefinesRead l.scope.attributes.now l.production)
