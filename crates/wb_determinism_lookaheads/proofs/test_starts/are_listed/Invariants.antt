use Rattle.std.proofs.Common.{ℕ}
use Rattle.wb_termset.specs.Sets.{IsMember}
use Rattle.wb_determinism_lookaheads.specs.Inner.Spreading.{both_of, with_sets}
use Rattle.wb_determinism_lookaheads.specs.NewLookaheads.{Lists}
use Rattle.wb_determinism_lookaheads.proofs.ListLemmas.{EachBefore}
use Rattle.wb_determinism_lookaheads.proofs.test_starts.are_listed.Given as goal

abbrev pub invariant-items : goal.invariant-items
invariant-items l =
    EachBefore (λ item. (t : ℕ) → IsMember l.set t → Lists (both_of l.context) (with_sets l.context l.sets) l.place item t) l.items
    l.item-index
