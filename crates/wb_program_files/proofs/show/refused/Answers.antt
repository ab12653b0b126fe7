-- The line shows the refusal.
use Rattle.std.proofs.Common.{◌≡◌, ◌∙◌, ℕ, List, Some, ap, sym, subst}
use Rattle.wb_report.specs.Lines.{report_of}
use Rattle.wb_report.specs.declared.outcome.Outcome.TheVariants as o
use Rattle.wb_report.specs.declared.refusal.Refusal.TheVariants as r
use Rattle.wb_certify_files.specs.Shows.{written_reason, of_spec}
use Rattle.wb_program_files.specs.Checks.{Ends}
use Rattle.wb_program_files.specs.declared.status.Status.TheVariants.{SpecRefused}
use Rattle.wb_program_files.proofs.StopLemmas.{on_both_ok}
use Rattle.wb_program_files.specs.Inner.Shown.{ShowsRefusal}
use Rattle.wb_program_files.proofs.show.refused.Goals as goal

pub returns : goal.returns
returns c =
    let file = c.args.file.now in
    let refusal = c.args.refusal.now in
    let shown = r.Specification c.in-Some.reason in
    let word : c.in_ok-file.file ≡ file = c.in_ok-file.ensures.ok ∙ c.as_bytes.ensures.value in
    let shows : of_spec (written_reason refusal) ≡ Some shown = ap of_spec (sym c.in_ok-reason.ensures ∙ c.in-Some.is) in
    on_both_ok c.reported.result (λ answer. answer.status ≡ SpecRefused)
    (λ answer. answer.report.items ≡ report_of (o.Refused c.in_ok-file.file shown))
    (λ answer. Ends SpecRefused (ShowsRefusal refusal file) answer.status answer.report.items)
    (λ answer ends line. (
      ends,
      record {
        shown = shown;
        shows = shows;
        line = subst (λ (name : List ℕ). answer.report.items ≡ report_of (o.Refused name shown)) word line;
      },
    ))
    c.reported.ensures.status c.reported.ensures.report
