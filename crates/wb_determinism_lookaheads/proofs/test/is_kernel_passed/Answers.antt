use Rattle.std.proofs.Common.{[], below_more, arith}
use Rattle.std.specs.Prelude.{slice_index_or}
use Rattle.std.proofs.lemmas.Option.{slice_get_within}
use Rattle.wb_determinism_lookaheads.proofs.test.is_kernel_passed.Goals as goal

pub slots-preserved : goal.slots-preserved
slots-preserved c = below_more _ _ c.slots.invariant (c.is_slot_passed.ensures c.if-not-is_slot_passed.false)

pub returns : goal.returns
returns c = λ _ j one slot.
    c.slots.invariant j (let w = slice_get_within (slice_index_or c.args.context.now.slots.now c.args.place []) j one slot in
    omega (arith, w, c.slots-test.false, c.slot_count-at-end.ensures)) one slot
