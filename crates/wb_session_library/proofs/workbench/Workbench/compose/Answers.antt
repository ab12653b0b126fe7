-- The language is that of the host, and what there is no room for is told of the handle.
use Rattle.wb_compose_files.proofs.NextLemmas.{on_ok}
use Rattle.wb_session_library.specs.Refusals.{IsNamedRefusal, IsOfRoom}
use Rattle.wb_session_library.specs.Workbenches.{Adds, ComposesHost}
use Rattle.wb_session_library.proofs.NamedLemmas.{on_err, refused_value}
use Rattle.wb_session_library.proofs.workbench.Workbench.compose.Goals as goal

pub returns-in-Ok-clause-ok : goal.returns-in-Ok-clause-ok
returns-in-Ok-clause-ok c =
    let hosts = c.args.self.now.hosts.slots.items in
    let old = c.args.self.now.languages.slots.items in
    let new = c.added.new.table.slots.items in
    on_ok c.added.result (Adds old c.in-Ok.made new) (ComposesHost hosts c.args.host old new)
    (λ handle adds. record {
      certified = c.in-Some.removed;
      named = c.in-Some.ensures.value;
      made = c.in-Ok.made;
      adds = adds;
      of = c.in-Ok.ensures.of;
      composed = c.in-Ok.ensures.is;
    })
    c.added.ensures.ok

pub returns-in-Ok-clause-refused : goal.returns-in-Ok-clause-refused
returns-in-Ok-clause-refused c =
    let hosts = c.args.self.now.hosts.slots.items in
    on_err c.added.result IsOfRoom (IsNamedRefusal hosts c.args.host (λ certified. IsOfRoom))
    (λ refusal room. refused_value hosts c.args.host c.in-Some.removed (λ certified. IsOfRoom) refusal c.in-Some.ensures.value
    (λ never. never) room)
    c.added.ensures.refused
