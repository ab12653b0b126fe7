use Rattle.wb_program_texts.proofs.texts.answer_reading.Goals as goal

pub returns : goal.returns
returns g c = c.answer_of_text.ensures
