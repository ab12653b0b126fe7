use Rattle.wb_compose_texts.proofs.OneReading.{same_readings}
use Rattle.wb_compose_texts.proofs.reading_laws.reading_order_law.Goals as goal

pub returns : goal.returns
returns c = same_readings
