use Rattle.wb_flow.proofs.EachLemmas.{EachBefore}
use Rattle.wb_complete.specs.Inner.Tests.{DefinesReads}
use Rattle.wb_syntax_resolved.specs.declared.production.Local.{Local}
use Rattle.wb_complete.proofs.below.lacking_in_locals.Given as goal

abbrev pub invariant-locals : goal.invariant-locals
invariant-locals l = EachBefore l.local-items l.local-index
    (λ (e : Local). DefinesReads l.scope.attributes.now l.production e.nodes)
