use Rattle.std.proofs.Common.{◌≡◌, arith, length, subst}
use Rattle.wb_compose_kernels.specs.Inner.Filling.{Gains, IsSlotGain, slots_in}
use Rattle.wb_compose_kernels.proofs.GainLemmas.{IsGainBelow, gains_next, gains_start}
use Rattle.wb_compose_kernels.proofs.fill.fill_slots.Goals as goal

pub slots-init : goal.slots-init
slots-init c =
    gains_start c.args.filling.now.kernels.now (IsSlotGain c.args.filling.now c.args.part c.args.place c.args.number) c.args.made.now
    c.requires.making

pub fill_slot-requires-clause-making : goal.fill_slot-requires-clause-making
fill_slot-requires-clause-making c = c.slots.invariant.making

pub slots-preserved : goal.slots-preserved
slots-preserved c =
    gains_next c.args.filling.now.kernels.now (IsSlotGain c.args.filling.now c.args.part c.args.place c.args.number) c.slots.at
    c.args.made.now c.slots.made c.fill_slot.new.made c.slots.invariant c.in_ok-fill_slot.ensures

pub returns : goal.returns
returns c =
    let end = c.slot_count-at-end.ensures in
    let done : c.slots.at ≡ length (slots_in c.args.filling.now c.args.part c.args.place) = omega (arith, end) in
    subst (λ n. Gains c.args.filling.now.kernels.now (IsGainBelow c.args.filling.now.kernels.now (IsSlotGain c.args.filling.now c.args.part
    c.args.place c.args.number) n) c.args.made.now c.slots.made) done c.slots.invariant
