-- The reading of a text is shown.
use Rattle.wb_compose_texts.specs.Unions.{all_resolved}
use Rattle.wb_program_files.proofs.StopLemmas.{on_ok}
use Rattle.wb_program_texts.specs.Commands.Reading.{ShownReading, TextReadingReport}
use Rattle.wb_program_texts.proofs.reading.reading_of_text.Goals as goal

pub returns : goal.returns
returns c =
    let host = c.args.host.now in
    let values = all_resolved c.args.extensions.now in
    let reading = c.in_ok-reading.reading in
    on_ok c.shown_reading.result (λ answer. ShownReading reading answer.status answer.report.items)
    (λ answer. TextReadingReport host.operations host.resolved values c.args.text.now answer.status answer.report.items)
    (λ answer shown. record { reading = reading; is = c.in_ok-reading.ensures; shown = shown }) c.shown_reading.ensures
