-- A refusal of the text's value is one of the handle.
use Rattle.wb_session_library.specs.Questions.{IsValueRefusal}
use Rattle.wb_session_library.specs.Refusals.{IsNamedRefusal}
use Rattle.wb_session_library.proofs.NamedLemmas.{known, on_err, refused_value}
use Rattle.wb_session_library.proofs.workbench.Workbench.value.Goals as goal

pub returns-in-Some-clause-refused : goal.returns-in-Some-clause-refused
returns-in-Some-clause-refused c =
    let text = c.in-Some.found.now in
    let name = c.args.name.now in
    let note = c.note_value.new.note.items in
    on_err c.note_value.result (IsValueRefusal text name c.args.steps note)
    (IsNamedRefusal c.args.self.now.texts.slots.items c.args.text (λ view. IsValueRefusal view name c.args.steps note))
    (λ refusal holds. refused_value c.args.self.now.texts.slots.items c.args.text text (λ view. IsValueRefusal view name c.args.steps note)
    refusal c.in-Some.ensures (known text name c.args.steps note) holds)
    c.note_value.ensures.refused
