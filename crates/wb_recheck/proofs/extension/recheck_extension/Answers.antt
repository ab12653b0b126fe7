use Rattle.wb_certify.proofs.ExtensionLemmas.{of_written}
use Rattle.wb_recheck.proofs.ExtensionLemmas.{certificate_kept, certified_extension, extension_refused}
use Rattle.wb_recheck.proofs.extension.recheck_extension.Goals as goal

pub recheck_beside-answer-requires-clause-extends : goal.recheck_beside-answer-requires-clause-extends
recheck_beside-answer-requires-clause-extends g c =
    of_written c.args.host.now.resolved c.args.spec.now c.in-Ok.resolved (rw c.resolved.ensures.resolved at c.in-Ok.ensures.ok)
    c.items.ensures.text

pub returns-in-Ok-clause-certified : goal.returns-in-Ok-clause-certified
returns-in-Ok-clause-certified g c =
    certified_extension c.args.host.now.resolved c.args.spec.now c.in-Ok.resolved c.args.host.now.operations c.args.certificate.now
    (rw c.resolved.ensures.resolved at c.in-Ok.ensures.ok) c.recheck_beside-answer.result c.resolved.ensures.certified
    c.recheck_beside-answer.ensures.certified

pub returns-in-Ok-clause-certificate : goal.returns-in-Ok-clause-certificate
returns-in-Ok-clause-certificate g c =
    certificate_kept c.args.host.now.resolved c.args.spec.now c.in-Ok.resolved c.args.host.now.operations c.args.certificate.now
    (rw c.resolved.ensures.resolved at c.in-Ok.ensures.ok) c.recheck_beside-answer.result c.recheck_beside-answer.ensures.certificate

pub returns-in-Ok-clause-refused : goal.returns-in-Ok-clause-refused
returns-in-Ok-clause-refused g c =
    extension_refused c.args.host.now.resolved c.args.spec.now c.in-Ok.resolved c.args.host.now.operations c.args.certificate.now
    (rw c.resolved.ensures.resolved at c.in-Ok.ensures.ok) c.recheck_beside-answer.result c.recheck_beside-answer.ensures.refused
