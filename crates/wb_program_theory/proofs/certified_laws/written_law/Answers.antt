use Rattle.wb_program_theory.proofs.CompletenessLemmas.{write_as_reported}
use Rattle.wb_program_theory.proofs.certified_laws.written_law.Goals as goal

pub returns : goal.returns
returns c = write_as_reported c.one_status_law.ensures c.one_text_law.ensures
