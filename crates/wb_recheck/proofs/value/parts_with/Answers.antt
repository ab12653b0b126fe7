use Rattle.wb_recheck.proofs.HostLemmas.{certificate_in, text_value}
use Rattle.wb_recheck.proofs.value.parts_with.Goals as goal

pub returns-in-Ok-clause-certificate : goal.returns-in-Ok-clause-certificate
returns-in-Ok-clause-certificate c = certificate_in c.args.resolved.now c.args.certificate.now c.in-Ok.ensures.certificate c.judged.result

pub returns-in-Ok-clause-refused : goal.returns-in-Ok-clause-refused
returns-in-Ok-clause-refused c = c.judged.ensures.refused c.args.certificate.now c.in-Ok.ensures.certificate

pub returns-in-Err-clause-refused : goal.returns-in-Err-clause-refused
returns-in-Err-clause-refused c =
    let later = text_value c.args.resolved.now c.args.certificate.now c.in-Err.fault c.in-Err.ensures.refused in
    rw c.of_fault.ensures later
