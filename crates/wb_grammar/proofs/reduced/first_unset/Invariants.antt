use Rattle.std.proofs.Common.{◌≡◌, ℕ, ◌<◌, true, false, get_or}
use Rattle.wb_grammar.proofs.reduced.first_unset.Given as goal

abbrev pub invariant-flags : goal.invariant-flags
invariant-flags l = (v : ℕ) → v < l.vertex → get_or l.flags v false ≡ true
