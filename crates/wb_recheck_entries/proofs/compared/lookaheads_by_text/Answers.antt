use Rattle.wb_recheck_entries.specs.Texts.{IsHeadOf}
use Rattle.wb_recheck_entries.proofs.FaultLemmas.{text_certificate, text_fault}
use Rattle.wb_recheck_entries.proofs.compared.lookaheads_by_text.Goals as goal

pub returns-in-Ok-clause-certificate : goal.returns-in-Ok-clause-certificate
returns-in-Ok-clause-certificate c =
    text_certificate c.args.text.now (IsHeadOf c.args.owner.now) c.args.grammar.now c.in-Ok.certificate c.looked_by-answer.result
    c.in-Ok.ensures.ok
    c.looked_by-answer.ensures.certificate

pub returns-in-Ok-clause-refused : goal.returns-in-Ok-clause-refused
returns-in-Ok-clause-refused c =
    text_fault c.args.text.now (IsHeadOf c.args.owner.now) c.args.grammar.now c.in-Ok.certificate c.looked_by-answer.result
    c.in-Ok.ensures.ok
    c.looked_by-answer.ensures.refused
