use Rattle.std.proofs.Common.{ℕ, List, [], length}
use Rattle.wb_recheck_text.specs.declared.certificate.Head.{Head}
use Rattle.wb_recheck_text.specs.Inner.Progress.{HasRead}
use Rattle.wb_recheck_text.proofs.read.read_lines.Given as goal

abbrev pub invariant-lines : goal.invariant-lines
invariant-lines l =
    (text : List ℕ) (head : Head) → HasRead text l.body head l.initial.lines.items [] → HasRead text l.rest head l.lines.items []

abbrev pub decreases-lines : goal.decreases-lines
decreases-lines l = length l.rest
