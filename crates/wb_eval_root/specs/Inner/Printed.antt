-- What is answered for a value of this printed text, and for a term of whose tree something comes.
use Rattle.std.specs.Prelude.{◌≡◌, ◌<◌, ◌≤◌, ℕ, List, length}
use Rattle.wb_eval_root.specs.declared.answer.RootAnswer.{RootAnswer}
use Rattle.wb_eval_root.specs.declared.answer.RootAnswer.TheVariants as r
use Rattle.wb_eval_root.specs.declared.value.TreeValue.{TreeValue}
use Rattle.wb_eval_root.specs.declared.value.TreeValue.TheVariants as v

-- the text, or that it is too long
abbrev pub IsPrinted : List ℕ → TreeValue → Type 0
IsPrinted text (v.Value printed) = (printed ≡ text) × (length printed ≤ 16777216)
IsPrinted text v.TooLong = 16777216 < length text
IsPrinted text other = ⊥

-- the answer for a term
abbrev pub answer_for : TreeValue → RootAnswer
answer_for (v.Value printed) = r.Value printed
answer_for v.TooLong = r.TooLong
answer_for (v.Fault operation code) = r.Fault operation code
answer_for v.MoreSteps = r.MoreSteps
