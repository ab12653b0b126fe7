use Rattle.std.proofs.Common.{◌∙◌, sym}
use Rattle.wb_flow.proofs.CheckLemmas.{notes_found, notes_known}
use Rattle.wb_flow.proofs.cycles.note_cycle.Goals as goal

pub returns-then-is_some : goal.returns-then-is_some
returns-then-is_some c =
    let t = c.args.tested.now in
    notes_known t.scope.now.attributes.now t.number t.production.now c.args.cycle.now (sym c.is_some.ensures ∙ c.if-is_some.true)

pub returns : goal.returns
returns c =
    let t = c.args.tested.now in
    notes_found t.scope.now.attributes.now t.number t.production.now c.args.cycle.now c.in_ok-cycle.field-0
    (sym c.is_some.ensures ∙ c.if-is_some.false) c.in_ok-cycle.ensures
