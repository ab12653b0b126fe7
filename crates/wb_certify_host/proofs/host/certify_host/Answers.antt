use Rattle.wb_certify_host.proofs.HostLemmas.{certified_host, host_refused, of_written}
use Rattle.wb_certify_host.proofs.host.certify_host.Goals as goal

pub certify_resolved-answer-requires : goal.certify_resolved-answer-requires
certify_resolved-answer-requires g c =
    of_written c.args.spec.now c.in-Ok.resolved c.in-Ok.ensures.ok c.items.ensures.text

pub returns-in-Ok-clause-certified : goal.returns-in-Ok-clause-certified
returns-in-Ok-clause-certified g c =
    certified_host c.args.spec.now c.in-Ok.resolved c.args.operations.now.signatures c.in-Ok.ensures.ok
    c.certify_resolved-answer.result c.certify_resolved-answer.ensures.certified

pub returns-in-Ok-clause-refused : goal.returns-in-Ok-clause-refused
returns-in-Ok-clause-refused g c =
    host_refused c.args.spec.now c.in-Ok.resolved c.args.operations.now.signatures c.in-Ok.ensures.ok
    c.certify_resolved-answer.result c.certify_resolved-answer.ensures.refused
