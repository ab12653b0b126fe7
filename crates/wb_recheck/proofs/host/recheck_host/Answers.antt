use Rattle.wb_certify.proofs.CertifiedHostLemmas.{of_written}
use Rattle.wb_recheck.proofs.HostLemmas.{certificate_kept, certified_host, host_refused}
use Rattle.wb_recheck.proofs.host.recheck_host.Goals as goal

pub recheck_resolved-answer-requires : goal.recheck_resolved-answer-requires
recheck_resolved-answer-requires g c = of_written c.args.spec.now c.in-Ok.resolved c.in-Ok.ensures.ok c.items.ensures.text

pub returns-in-Ok-clause-certified : goal.returns-in-Ok-clause-certified
returns-in-Ok-clause-certified g c =
    certified_host c.args.spec.now c.in-Ok.resolved c.args.operations.now.signatures c.args.certificate.now c.in-Ok.ensures.ok
    c.recheck_resolved-answer.result c.recheck_resolved-answer.ensures.certified

pub returns-in-Ok-clause-certificate : goal.returns-in-Ok-clause-certificate
returns-in-Ok-clause-certificate g c =
    certificate_kept c.args.spec.now c.in-Ok.resolved c.args.operations.now.signatures c.args.certificate.now c.in-Ok.ensures.ok
    c.recheck_resolved-answer.result c.recheck_resolved-answer.ensures.resolved c.recheck_resolved-answer.ensures.certificate

pub returns-in-Ok-clause-refused : goal.returns-in-Ok-clause-refused
returns-in-Ok-clause-refused g c =
    host_refused c.args.spec.now c.in-Ok.resolved c.args.operations.now.signatures c.args.certificate.now c.in-Ok.ensures.ok
    c.recheck_resolved-answer.result c.recheck_resolved-answer.ensures.refused
