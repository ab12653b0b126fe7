use Rattle.wb_program_texts.proofs.source.answer_run.Goals as goal

pub returns : goal.returns
returns g c = c.answer_source.ensures
