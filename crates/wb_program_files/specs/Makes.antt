-- What a run that reads files makes.
use Rattle.std.specs.Prelude.{List, ℕ, Result, IfOk, IfErr}
use Rattle.wb_program_files.specs.Checks.{Report}
use Rattle.wb_program_files.specs.Stopped.{Outside, Stopped, GoesOn}
use Rattle.wb_program_files.specs.declared.answer.Answer.{Answer}
use Rattle.wb_program_files.specs.declared.files.ReadFailure.{ReadFailure}

-- what is made is so, or the run stopped where it comes to a file that stops it; meanwhile the files stay
pub record Makes {X : Type 0} (before now : Outside) (result : Result X ReadFailure) (IsSo : X → Type 0)
    (Comes : (List ℕ → Type 0) → Type 0) : Type 0 where
  pub ok : IfOk result IsSo
  pub stopped : IfErr result (Stopped before now Comes)
  pub goes_on : GoesOn before now

-- an answer is made so, by its status and its report
abbrev pub Answers : Outside → Outside → Result Answer ReadFailure → Report → ((List ℕ → Type 0) → Type 0) → Type 0
Answers before now result IsSo Comes = Makes before now result (λ answer. IsSo answer.status answer.report.items) Comes
