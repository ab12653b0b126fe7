-- The handle names the host that the contents are, and the note and the reason say why they are none.
use Rattle.wb_compose_files.proofs.NextLemmas.{on_ok}
use Rattle.wb_session_library.specs.Workbenches.{Adds, OpensHost}
use Rattle.wb_session_library.proofs.workbench.Workbench.host.Goals as goal

pub returns-in-Ok-clause-ok : goal.returns-in-Ok-clause-ok
returns-in-Ok-clause-ok c =
    let old = c.args.self.now.hosts.slots.items in
    let new = c.added.new.table.slots.items in
    on_ok c.added.result (Adds old c.in-Ok.made new) (OpensHost c.args.contents.now old new)
    (λ handle adds. record { made = c.in-Ok.made; adds = adds; host = c.in-Ok.ensures.host; none = c.in-Ok.ensures.none }) c.added.ensures.ok

pub returns-in-Err-clause-refused : goal.returns-in-Err-clause-refused
returns-in-Err-clause-refused c =
    c.note_host.ensures c.args.contents.now c.host_reason-self.result c.in-Err.ensures.refused c.host_reason-self.ensures
