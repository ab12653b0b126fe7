-- What comes of a text is shown.
use Rattle.std.proofs.Common.{length}
use Rattle.wb_operations.specs.Operations.{Operations}
use Rattle.wb_compose_texts.specs.Unions.{all_resolved}
use Rattle.wb_compose_texts.specs.Values.{IsTextValue}
use Rattle.wb_compose_texts.specs.declared.value.TextValue.{TextValue}
use Rattle.wb_program_files.proofs.StopLemmas.{ok_of, on_ok}
use Rattle.wb_program_texts.specs.Inner.Sources.{shown_with}
use Rattle.wb_program_texts.specs.Values.{ShownTextValue, TextValueReport}
use Rattle.wb_program_texts.proofs.asked.text_answer.Goals as goal

pub text_value-requires-clause-question : goal.text_value-requires-clause-question
text_value-requires-clause-question g c =
    record {
      composed = c.requires.composed;
      attributes = c.requires.asked.attributes;
      same = c.requires.asked.same;
      asked = (c.args.asked.now.name.now, c.requires.asked.is_root);
    }

pub returns : goal.returns
returns g c =
    let operations : Operations = record { signatures = c.args.operations.now.signatures; meaning = g.M.Meaning.meaning } in
    let asked = c.args.asked.now in
    let host = asked.host.now.resolved in
    let values = all_resolved asked.extensions.now in
    let name = asked.name.now in
    let text = c.args.text.now in
    let steps = c.args.steps in
    let shows = shown_with name (length text) c.args.leaves in
    let value = c.in_ok-value.value in
    let is : IsTextValue host operations values text name steps value =
    ok_of c.text_value.result value (λ (v : TextValue). IsTextValue host operations values text name steps v) c.in_ok-value.was
    (c.text_value.ensures name c.requires.asked.is_root) in
    on_ok c.shown_text.result (λ answer. ShownTextValue shows steps value answer.status answer.report.items)
    (λ answer. TextValueReport operations host values name steps shows text answer.status answer.report.items)
    (λ answer shown. record { value = value; is = is; shown = shown }) c.shown_text.ensures
