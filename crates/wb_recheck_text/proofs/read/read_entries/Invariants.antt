use Rattle.std.proofs.Common.{◌≡◌, ℕ, List, [], ◌∷◌, length}
use Rattle.wb_recheck_theory.specs.declared.line.Line.{Line}
use Rattle.wb_recheck_text.specs.declared.certificate.Head.{Head}
use Rattle.wb_recheck_text.specs.Inner.Progress.{HasRead}
use Rattle.wb_recheck_text.proofs.read.read_entries.Given as goal

abbrev pub invariant-entries : goal.invariant-entries
invariant-entries l =
    ((text : List ℕ) (head : Head) (lines : List Line) → HasRead text l.body head lines [] → HasRead text l.rest head lines l.entries.items)
    × (l.entries.items ≡ [] → (after : List ℕ) → l.rest ≡ 107 ∷ after → ⊥)

abbrev pub decreases-entries : goal.decreases-entries
decreases-entries l = length l.rest
