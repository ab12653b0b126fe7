use Rattle.std.proofs.Common.{◌≡◌, Some, slice_get}
use Rattle.wb_flow.proofs.EachLemmas.{EachBefore}
use Rattle.wb_complete.specs.Inner.Tests.{DefinesAttribute}
use Rattle.wb_syntax_resolved.specs.declared.attributes.Occurrence.{Occurrence}
use Rattle.wb_complete.proofs.top.lacking_top.Given as goal

abbrev pub invariant-occurrences : goal.invariant-occurrences
invariant-occurrences l = EachBefore l.place-items l.place-index (λ n. (o : Occurrence)
    → slice_get l.scope.attributes.now.occurrences n ≡ Some o → DefinesAttribute l.scope.attributes.now l.production o)
