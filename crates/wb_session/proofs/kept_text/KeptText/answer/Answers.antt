use Rattle.wb_session.specs.KeptTexts.{answer_of, store_of, text_of}
use Rattle.wb_session.proofs.KeptLemmas.{parsed_fits}
use Rattle.wb_session.proofs.kept_text.KeptText.answer.Goals as goal

pub returns-clause-fits : goal.returns-clause-fits
returns-clause-fits c = λ language is.
    let kept = c.args.self.now in parsed_fits language.language (text_of kept) (store_of kept) (answer_of kept) is.parsed
