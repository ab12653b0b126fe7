use Rattle.wb_program_texts.proofs.source.answer_generate.Goals as goal

pub returns : goal.returns
returns g c = c.answer_source.ensures
