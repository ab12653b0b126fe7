use Rattle.wb_recheck.proofs.ExtensionLemmas.{certificate_in, text_beside}
use Rattle.wb_recheck.proofs.beside.test_by_text.Goals as goal

pub returns-in-Ok-clause-certificate : goal.returns-in-Ok-clause-certificate
returns-in-Ok-clause-certificate c =
    certificate_in c.args.resolved.now c.args.certificate.now c.in-Ok.ensures.certificate c.test_judged.result

pub returns-in-Ok-clause-refused : goal.returns-in-Ok-clause-refused
returns-in-Ok-clause-refused c = c.test_judged.ensures.refused c.args.certificate.now c.in-Ok.ensures.certificate

pub returns-in-Err-clause-refused : goal.returns-in-Err-clause-refused
returns-in-Err-clause-refused c =
    let later = text_beside c.args.resolved.now c.args.certificate.now c.args.host.now.grammar c.in-Err.fault c.in-Err.ensures.refused in
    rw c.of_fault.ensures later
