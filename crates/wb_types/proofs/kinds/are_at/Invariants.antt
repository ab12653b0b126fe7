use Rattle.std.proofs.Common.{◌≡◌, ◌<◌, ℕ, Some, slice_get}
use Rattle.wb_base.specs.declared.symbol.Kind.{Kind}
use Rattle.wb_types.specs.Inner.Nodes.{IsAt}
use Rattle.wb_types.proofs.kinds.are_at.Given as goal

abbrev pub invariant-places : goal.invariant-places
invariant-places l = (i at : ℕ) (is : Kind) → i < l.number → slice_get l.places i ≡ Some at → slice_get l.wanted i ≡ Some is
    → IsAt l.kinds at is
