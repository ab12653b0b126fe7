use Rattle.std.proofs.Common.{◌≡◌, ◌<◌, ℕ, Some, Contains}
use Rattle.std.specs.Prelude.{slice_get}
use Rattle.wb_grammar_theory.specs.Items.{initial_item}
use Rattle.wb_recheck_entries.specs.Keys.{key_at}
use Rattle.wb_recheck_entries.proofs.opened.lacks_one.Given as goal

abbrev pub invariant-numbers : goal.invariant-numbers
invariant-numbers l =
    (n q : ℕ) → n < l.place → slice_get l.numbers n ≡ Some q → Contains l.keys (key_at l.kernel (initial_item q) l.terminal)
