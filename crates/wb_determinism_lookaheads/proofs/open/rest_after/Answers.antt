use Rattle.std.proofs.Common.{◌∙◌, Some, sym, ap, subst, arith}
use Rattle.std.proofs.lemmas.Option.{slice_get-get_or}
use Rattle.wb_determinism_lookaheads.specs.Inner.Rests.{IsRest}
use Rattle.wb_determinism_lookaheads.specs.Inner.Spreading.{both_of}
use Rattle.wb_determinism_lookaheads.proofs.PassedLemmas.{rest_at}
use Rattle.wb_determinism_lookaheads.proofs.open.rest_after.Goals as goal

pub returns-then-item-row : goal.returns-then-item-row
returns-then-item-row c = λ x more is.
    subst (IsRest (both_of c.args.context.now) more) (sym c.index-row-item.is)
    (rest_at (both_of c.args.context.now) c.args.context.now.rests.now c.requires c.args.item c.as_slice-row.result.now _
    (slice_get-get_or c.args.context.now.rests.now c.args.item.production c.index-context-item.result
    (omega (arith, c.if-item-context.false))
    ∙ ap Some (sym c.as_slice-row.ensures))
    (slice_get-get_or c.as_slice-row.result.now c.args.item.dot c.index-row-item.result c.if-item-row.true) x more is)
