use Rattle.wb_flow.proofs.EachLemmas.{EachBefore}
use Rattle.wb_flow.specs.Rules.{attribute_at, IsDefined}
use Rattle.wb_complete.proofs.below.lacking_of.Given as goal

abbrev pub invariant-needs : goal.invariant-needs
invariant-needs l = EachBefore l.needs l.inherited-index (λ i. IsDefined l.production (attribute_at l.at i))
