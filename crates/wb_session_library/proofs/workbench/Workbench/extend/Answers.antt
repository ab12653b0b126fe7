-- The note and the reason say why the contents are no extension of the host.
use Rattle.wb_session_library.specs.Refusals.{IsExtensionRefused}
use Rattle.wb_session_library.proofs.NamedLemmas.{refused_value}
use Rattle.wb_session_library.proofs.workbench.Workbench.extend.Goals as goal

pub returns-in-Err-clause-refused : goal.returns-in-Err-clause-refused
returns-in-Err-clause-refused c =
    let host = c.in-Some.taken in
    let contents = c.args.contents.now in
    refused_value c.args.self.now.hosts.slots.items c.args.host host
    (IsExtensionRefused contents c.args.name.now c.note_extension.new.note.items c.next_reason-self.result) c.note_extension.result
    c.in-Some.ensures.value (λ never. never)
    (c.note_extension.ensures host contents c.next_reason-self.result c.in-Err.ensures.refused c.next_reason-self.ensures)
