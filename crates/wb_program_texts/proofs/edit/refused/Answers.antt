-- The line shows the file by its word.
use Rattle.std.proofs.Common.{◌≡◌, ◌∙◌, ℕ, List, subst}
use Rattle.wb_report.specs.Lines.{report_of}
use Rattle.wb_report.specs.declared.outcome.Outcome.TheVariants as o
use Rattle.wb_report.specs.declared.refusal.Refusal.TheVariants as refusal
use Rattle.wb_program_files.specs.Checks.{Ends}
use Rattle.wb_program_texts.specs.Commands.Edit.{refused_line}
use Rattle.wb_program_files.specs.declared.status.Status.TheVariants.{EditRefused}
use Rattle.wb_program_files.proofs.StopLemmas.{on_both_ok}
use Rattle.wb_program_texts.proofs.edit.refused.Goals as goal

pub returns : goal.returns
returns c =
    let shown = refusal.Edits c.args.reason in
    let word : c.in_ok-file.file ≡ c.args.file.now = c.in_ok-file.ensures.ok ∙ c.as_bytes.ensures.value in
    on_both_ok c.reported.result (λ answer. answer.status ≡ EditRefused)
    (λ answer. answer.report.items ≡ report_of (o.Refused c.in_ok-file.file shown))
    (λ answer. Ends EditRefused (λ bytes. bytes ≡ refused_line c.args.file.now c.args.reason) answer.status answer.report.items)
    (λ answer ends line. (ends, subst (λ (name : List ℕ). answer.report.items ≡ report_of (o.Refused name shown)) word line))
    c.reported.ensures.status c.reported.ensures.report
