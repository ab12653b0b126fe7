-- The reading is shown.
use Rattle.wb_compose_texts.proofs.reading.composed_reading.Goals as goal

pub returns : goal.returns
returns c = c.shown.ensures c.args.text.now c.in_ok-found.ensures
