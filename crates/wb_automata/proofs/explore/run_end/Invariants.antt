use Rattle.std.proofs.Common.{◌≡◌, ◌<◌, ◌≤◌, ◌-◌, ℕ, get_or, length}
use Rattle.wb_automata.proofs.explore.run_end.Given as goal

abbrev pub invariant-numbers : goal.invariant-numbers
invariant-numbers l = record {
  after : l.place < l.end;
  within : l.end ≤ length l.numbers;
  alike : (k : ℕ) → l.place ≤ k → k < l.end → get_or l.numbers k 0 ≡ get_or l.numbers l.place 0;
}

abbrev pub decreases-numbers : goal.decreases-numbers
decreases-numbers l = length l.numbers - l.end
