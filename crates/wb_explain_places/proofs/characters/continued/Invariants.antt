use Rattle.std.proofs.Common.{◌≡◌, ℕ, ◌<◌, true, get_or}
use Rattle.wb_explain_places.specs.Characters.{continues_character}
use Rattle.wb_explain_places.proofs.characters.continued.Given as goal

abbrev pub invariant-loop-place : goal.invariant-loop-place
invariant-loop-place l = (k : ℕ) → k < l.place → continues_character (get_or l.bytes k 0) ≡ true
