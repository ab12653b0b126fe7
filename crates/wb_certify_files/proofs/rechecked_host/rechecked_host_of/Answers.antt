use Rattle.wb_certify_files.proofs.HostLemmas.{of_text}
use Rattle.wb_certify_files.proofs.RecheckedHostLemmas.{unresolved_refused}
use Rattle.wb_certify_files.specs.RecheckedHosts.{IsRefusedHost}
use Rattle.wb_certify_files.specs.declared.contents_refusal.ContentsRefusal.TheVariants as k
use Rattle.std.proofs.Common.{sym, subst}
use Rattle.wb_certify_files.proofs.rechecked_host.rechecked_host_of.Goals as goal

pub rechecked-answer-requires : goal.rechecked-answer-requires
rechecked-answer-requires g c = of_text c.args.contents.now c.in-Ok.resolved c.in-Ok.ensures.ok

pub returns-in-Ok-clause-host : goal.returns-in-Ok-clause-host
returns-in-Ok-clause-host g c = c.rechecked-answer.ensures.host c.args.contents.now c.in-Ok.ensures.ok

pub returns-in-Ok-clause-refused : goal.returns-in-Ok-clause-refused
returns-in-Ok-clause-refused g c = c.rechecked-answer.ensures.refused c.args.contents.now c.in-Ok.ensures.ok

pub returns-in-Err-clause-refused : goal.returns-in-Err-clause-refused
returns-in-Err-clause-refused g c =
    let operations = c.args.operations.now.signatures in
    subst (λ z. IsRefusedHost operations c.args.contents.now c.args.certificate.now (k.File z)) (sym c.unresolved.ensures)
    (unresolved_refused operations c.args.contents.now c.args.certificate.now c.in-Err.refusal c.in-Err.ensures.refused)
