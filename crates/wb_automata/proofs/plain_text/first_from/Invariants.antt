use Rattle.std.proofs.Common.{◌≤◌, ℕ}
use Rattle.wb_regex.specs.Matches.{HoldsByte}
use Rattle.wb_automata.proofs.plain_text.first_from.Given as goal

abbrev pub invariant-bytes : goal.invariant-bytes
invariant-bytes l = (c : ℕ) → HoldsByte l.words c → l.from ≤ c → l.byte ≤ c
