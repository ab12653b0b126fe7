use Rattle.std.proofs.Common.{◌≡◌, ◌<◌, ℕ, Some, slice_get}
use Rattle.wb_base.specs.declared.symbol.Kind.{Kind}
use Rattle.wb_explain_mismatches.proofs.kinds.are_at.Given as goal

abbrev pub invariant-places : goal.invariant-places
invariant-places l = (i at : ℕ) (is : Kind) → i < l.number → slice_get l.places i ≡ Some at → slice_get l.wanted i ≡ Some is
    → slice_get l.kinds at ≡ Some is
