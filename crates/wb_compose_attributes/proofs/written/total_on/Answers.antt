use Rattle.std.proofs.Common.{◌∙◌, ◌+◌, ap, length}
use Rattle.wb_compose_attributes.specs.Inner.Written.{locals_size}
use Rattle.wb_compose_attributes.proofs.NumberedLemmas.{total_next}
use Rattle.wb_compose_attributes.proofs.written.total_on.Goals as goal

pub placed-preserved : goal.placed-preserved
placed-preserved c =
    let on = c.args.on.now in
    total_next (locals_size on.leading on.number on.row.now) c.args.placed.now c.placed.extension-index c.extension-item.result
    c.placed.total c.in_ok-total.total c.placed-test.true c.extension-item.is c.placed.invariant
    (c.in_ok-total.ensures ∙ ap (λ z. c.placed.total + z) (ap length c.writing_on.ensures.locals))
