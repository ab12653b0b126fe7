use Rattle.wb_compose_texts.proofs.OneReading.{one_reading}
use Rattle.wb_compose_texts.proofs.reading_laws.one_reading_law.Goals as goal

pub returns : goal.returns
returns c = one_reading
