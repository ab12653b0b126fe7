-- The copied name is the host's.
use Rattle.std.proofs.Common.{◌≡◌, ℕ, List, IfOk, subst, sym, ◌∙◌}
use Rattle.wb_program_files.specs.Commands.Recheck.{RecheckedLines}
use Rattle.wb_program_files.proofs.StopLemmas.{on_both_ok}
use Rattle.wb_report.specs.Lines.{report_of}
use Rattle.wb_report.specs.declared.done.Done.TheVariants as done
use Rattle.wb_report.specs.declared.outcome.Outcome.TheVariants as o
use Rattle.wb_program_files.specs.declared.status.Status.TheVariants.{Done}
use Rattle.wb_program_files.proofs.recheck.rechecked_answer.Goals as goal

pub returns-in-Ok : goal.returns-in-Ok
returns-in-Ok c =
    let name : c.in-Ok.host ≡ c.args.host.now.resolved.host = c.in-Ok.ensures.ok ∙ c.name.ensures in
    on_both_ok c.reported.result (λ answer. answer.status ≡ Done)
    (λ answer. answer.report.items ≡ report_of (o.Done (done.Rechecked c.in-Ok.host c.args.extension)))
    (λ answer. RecheckedLines c.args.host.now.resolved.host c.args.extension answer.status answer.report.items)
    (λ answer status report. (
      status,
      subst (λ (host : List ℕ). answer.report.items ≡ report_of (o.Done (done.Rechecked host c.args.extension)))
          name report,
    )) c.reported.ensures.status c.reported.ensures.report
