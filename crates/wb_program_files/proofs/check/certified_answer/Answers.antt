-- The answer by the host's name is that of the host.
use Rattle.std.proofs.Common.{◌≡◌, ℕ, List, IfOk, [], subst}
use Rattle.wb_report.specs.Lines.{report_of}
use Rattle.wb_report.specs.declared.done.Done.TheVariants as done
use Rattle.wb_report.specs.declared.outcome.Outcome.TheVariants as o
use Rattle.wb_program_files.proofs.check.certified_answer.Goals as goal

pub returns-clause-status : goal.returns-clause-status
returns-clause-status c = c.name_answer-answer.ensures.status

pub returns-clause-report : goal.returns-clause-report
returns-clause-report c =
    subst (λ (name : List ℕ). IfOk c.name_answer-answer.result
    (λ answer. answer.report.items ≡ report_of (o.Done (done.Certified name [])))) c.name.ensures c.name_answer-answer.ensures.report
