use Rattle.std.proofs.Common.{sym, subst}
use Rattle.wb_certify_files.specs.RecheckedHosts.{IsRecheckedHost}
use Rattle.wb_certify_files.proofs.RecheckedHostLemmas.{host_line, host_shown}
use Rattle.wb_certify_files.proofs.rechecked_host.rechecked.Goals as goal

pub shown_value-requires : goal.shown_value-requires
shown_value-requires g c =
    host_line c.args.operations.now.signatures c.args.certificate.now c.args.resolved.now c.in-Err.refusal c.in-Err.ensures.refused

pub returns-in-Ok-clause-host : goal.returns-in-Ok-clause-host
returns-in-Ok-clause-host g c = λ contents stands.
    subst (λ r. IsRecheckedHost c.args.operations.now.signatures contents c.args.certificate.now r) (sym c.in-Ok.ensures.resolved) (record {
      stands = stands;
      certified = c.in-Ok.ensures.certified;
      certificate = c.in-Ok.ensures.certificate;
    })

pub returns-in-Err-clause-refused : goal.returns-in-Err-clause-refused
returns-in-Err-clause-refused g c = λ contents stands.
    host_shown c.args.operations.now.signatures c.args.certificate.now c.args.resolved.now contents stands c.in-Err.refusal
    c.in-Err.ensures.refused c.shown_value.result c.shown_value.ensures
