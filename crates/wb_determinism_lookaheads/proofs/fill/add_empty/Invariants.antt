use Rattle.std.proofs.Common.{[], ℕ}
use Rattle.std.specs.Prelude.{slice_index_or}
use Rattle.wb_termset.specs.Sets.{IsMember}
use Rattle.wb_determinism_lookaheads.proofs.fill.add_empty.Given as goal

abbrev pub invariant-kernels : goal.invariant-kernels
invariant-kernels l = (i j t : ℕ) → ¬ IsMember (slice_index_or (slice_index_or l.sets.items i []) j []) t
