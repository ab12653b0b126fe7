-- What a number makes is shown.
use Rattle.std.proofs.Common.{◌≡◌, ℕ, List, IfOk, sym, subst}
use Rattle.wb_compose_texts.specs.generated_text.Generated.{Generated}
use Rattle.wb_compose_texts.specs.Generated.{IsGeneratedText}
use Rattle.wb_operations.specs.Operations.{Operations, OperationSignature}
use Rattle.wb_report.specs.Lines.{report_of}
use Rattle.wb_report.specs.declared.outcome.Outcome.TheVariants as o
use Rattle.wb_compose_texts.specs.Unions.{all_resolved}
use Rattle.wb_program_files.specs.declared.status.Status.TheVariants.{NoSentence}
use Rattle.wb_program_files.proofs.StopLemmas.{on_ok, on_both_ok}
use Rattle.wb_program_texts.specs.Commands.Generate.{MadeReport, MadeTextReport, ShownMade}
use Rattle.wb_program_texts.proofs.asked.made_answer.Goals as goal

pub returns-in-Text : goal.returns-in-Text
returns-in-Text g c =
    let operations : Operations = record { signatures = c.args.operations.now.signatures; meaning = g.M.Meaning.meaning } in
    let asked = c.args.asked.now in
    let host = asked.host.now.resolved in
    let values = all_resolved asked.extensions.now in
    let name = asked.name.now in
    let number = c.args.number in
    let size = c.args.size in
    let made = c.in_ok-text.field-0 in
    let leaves = c.in-Text.leaves in
    let is : IsGeneratedText host operations.signatures values number size made =
    subst (λ (xs : List OperationSignature). IsGeneratedText host xs values number size made) c.requires.asked.same c.in_ok-text.ensures in
    let text : IfOk c.made_text-answer.result (λ answer. MadeTextReport operations host values name leaves c.in-Text.text answer.status
    answer.report.items) =
    subst (λ (bytes : List ℕ). IfOk c.made_text-answer.result (λ answer. MadeTextReport operations host values name leaves bytes answer.status
    answer.report.items)) c.as_slice.ensures c.made_text-answer.ensures in
    on_ok c.made_text-answer.result (λ answer. MadeTextReport operations host values name leaves c.in-Text.text answer.status answer.report.items)
    (λ answer. MadeReport operations host values name number size answer.status answer.report.items)
    (λ answer shown. record {
      made = made;
      is = is;
      shown = subst (λ (m : Generated). ShownMade operations host values name size m answer.status answer.report.items) (sym c.in-Text.is)
          shown;
    }) text

pub returns-in-NoSentence : goal.returns-in-NoSentence
returns-in-NoSentence g c =
    let operations : Operations = record { signatures = c.args.operations.now.signatures; meaning = g.M.Meaning.meaning } in
    let asked = c.args.asked.now in
    let host = asked.host.now.resolved in
    let values = all_resolved asked.extensions.now in
    let name = asked.name.now in
    let number = c.args.number in
    let size = c.args.size in
    let made = c.in_ok-text.field-0 in
    let is : IsGeneratedText host operations.signatures values number size made =
    subst (λ (xs : List OperationSignature). IsGeneratedText host xs values number size made) c.requires.asked.same c.in_ok-text.ensures in
    on_both_ok c.reported.result (λ answer. answer.status ≡ NoSentence)
    (λ answer. answer.report.items ≡ report_of (o.NoSentence size c.in-NoSentence.least))
    (λ answer. MadeReport operations host values name number size answer.status answer.report.items)
    (λ answer ends line. record {
      made = made;
      is = is;
      shown = subst (λ (m : Generated). ShownMade operations host values name size m answer.status answer.report.items)
          (sym c.in-NoSentence.is) (ends, line);
    }) c.reported.ensures.status c.reported.ensures.report
