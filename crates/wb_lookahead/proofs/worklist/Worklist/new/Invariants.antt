use Rattle.std.proofs.Common.{ℕ}
use Rattle.wb_lookahead.specs.Inner.Waiting.{IsMarked}
use Rattle.wb_lookahead.proofs.worklist.Worklist.new.Given as goal

abbrev pub invariant-states : goal.invariant-states
invariant-states l = (s at : ℕ) → IsMarked l.marks.items s at → ⊥
