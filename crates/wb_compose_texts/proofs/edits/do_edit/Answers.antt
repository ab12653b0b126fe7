-- The edit at the place is the first that isn't done.
use Rattle.std.proofs.Common.{ℕ, List, subst}
use Rattle.wb_session.specs.Sessions.{HasCause}
use Rattle.wb_compose_texts.proofs.edits.do_edit.Goals as goal

pub returns-in-Err-clause-halted : goal.returns-in-Err-clause-halted
returns-in-Err-clause-halted c = λ text edits come.
    let edit = c.args.edit.now in
    let now = c.args.session.now.text in
    c.halt_of.ensures text edits edit now come
    (subst (λ (bytes : List ℕ). HasCause now edit.from edit.to bytes c.in-Err.refusal) c.as_slice.ensures c.in-Err.ensures.refusal)
