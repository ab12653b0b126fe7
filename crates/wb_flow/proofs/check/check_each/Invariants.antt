use Rattle.std.proofs.Common.{◌≡◌, ◌<◌, ℕ, Some, slice_get}
use Rattle.wb_flow.specs.Inner.Sources.{KeepsAll, KnowsCycle}
use Rattle.wb_syntax_resolved.specs.declared.production.Production.{Production}
use Rattle.wb_flow.proofs.check.check_each.Given as goal

abbrev pub invariant-productions : goal.invariant-productions
invariant-productions l =
    ((k : ℕ) (production : Production) → k < l.number → slice_get l.productions k ≡ Some production
    → KeepsAll l.scope.attributes.now production) × KnowsCycle l.scope.attributes.now l.number l.cycle
