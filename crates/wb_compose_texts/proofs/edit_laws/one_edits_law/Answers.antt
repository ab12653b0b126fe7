-- A text has one answer, and so has a text with edits.
use Rattle.wb_compose_texts.proofs.OneEdits.{one_edits_answer}
use Rattle.wb_compose_texts.proofs.edit_laws.one_edits_law.Goals as goal

pub returns : goal.returns
returns c = λ host operations extensions.
    one_edits_answer host operations extensions (c.one_answer_law.ensures host operations extensions)
