-- The value is that of the workbench that the pointer had, and the note is in the one that it has now.
use Rattle.std.proofs.Common.{◌≡◌, ◌∙◌, None, OnOk, subst, sym}
use Rattle.wb_session_library.specs.Questions.{HasValue}
use Rattle.wb_session_library.specs.Refusals.{Names}
use Rattle.wb_session_library.specs.declared.workbench.Workbench.{Workbench}
use Rattle.wb_library.proofs.notes.value_in.Goals as goal

pub returns-clause-ok : goal.returns-clause-ok
returns-clause-ok c =
    let text = c.args.asked.0 in
    let name = c.args.asked.1.now in
    let steps = c.args.asked.2 in
    let before : c.deref_mut.result.now ≡ c.args.workbench.value =
    c.deref_mut.ensures.value ∙ (c.into_box-opened.ensures ∙ c.open_loose.ensures) in
    let after : c.value-answer.new.self ≡ c.of-2.result.value = sym (c.of-2.ensures ∙ c.of.ensures) in
    subst (λ (old : Workbench).
    OnOk c.value-answer.result (Names old.texts.slots.items text (λ view. HasValue view name steps c.of-2.result.value.note.items None)))
    before
    (subst (λ (new : Workbench). OnOk c.value-answer.result
    (Names c.deref_mut.result.now.texts.slots.items text (λ view. HasValue view name steps new.note.items None)))
    after c.value-answer.ensures.ok)
