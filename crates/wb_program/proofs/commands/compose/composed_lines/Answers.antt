-- The lines show the host, how many extensions there are, and the markers without a bare form.
use Rattle.std.proofs.Common.{◌≡◌, ◌∙◌, ℕ, List, length, ap, sym}
use Rattle.std.proofs.lemmas.List.{length-map}
use Rattle.wb_program_texts.specs.Kept.{ExtensionView}
use Rattle.wb_report.specs.Lines.{report_of}
use Rattle.wb_report.specs.declared.done.Done.TheVariants as done
use Rattle.wb_report.specs.declared.outcome.Outcome.TheVariants as o
use Rattle.wb_program_texts.specs.Unions.{all_resolved}
use Rattle.wb_program_texts.specs.Checks.{Ends}
use Rattle.wb_program_texts.specs.status.Status.TheVariants.{Done}
use Rattle.wb_program_texts.proofs.StopLemmas.{on_both_ok}
use Rattle.wb_program.specs.Commands.Compose.{ComposedLines}
use Rattle.wb_program.proofs.commands.compose.composed_lines.Goals as goal

pub returns : goal.returns
returns c =
    let host = c.args.host.now in
    let es = c.args.extensions.now in
    let names = c.in_ok-prefixed.prefixed in
    let word : c.in_ok-host.host ≡ host.resolved.host = c.in_ok-host.ensures.ok ∙ c.name.ensures in
    let count : length (all_resolved es) ≡ length es = length-map es (λ (e : ExtensionView). e.resolved) in
    on_both_ok c.reported.result (λ answer. answer.status ≡ Done)
    (λ answer. answer.report.items ≡ report_of (o.Done (done.Composed c.in_ok-host.host (length es) names)))
    (λ answer. Ends Done (ComposedLines host.operations host.resolved (all_resolved es)) answer.status answer.report.items)
    (λ answer ends line. (
      ends,
      record {
        names = names;
        withdrawn = c.in_ok-prefixed.ensures;
        lines = line ∙ (ap (λ (name : List ℕ). report_of (o.Done (done.Composed name (length es) names))) word
            ∙ ap (λ (n : ℕ). report_of (o.Done (done.Composed host.resolved.host n names))) (sym count));
      },
    ))
    c.reported.ensures.status c.reported.ensures.report
