use Rattle.std.proofs.Common.{ℕ, take}
use Rattle.wb_automata.specs.Inner.Pairs.{HasEnds}
use Rattle.wb_automata.proofs.walk.ends_in.Given as goal

abbrev pub invariant-loop-pair : goal.invariant-loop-pair
invariant-loop-pair l = (i j : ℕ) → ¬ HasEnds l.places (take l.pair-index l.pairs) i j
