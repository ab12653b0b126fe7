use Rattle.std.proofs.Common.{arith}
use Rattle.wb_determinism_beside.specs.Inner.Found.{both_in}
use Rattle.wb_determinism_beside.proofs.ListedLemmas.{listed_all, listed_none, slots_len, slots_there}
use Rattle.wb_determinism_beside.proofs.rows.listed_set.Goals as goal

pub slots-slots-requires : goal.slots-slots-requires
slots-slots-requires c = slots_there c.args.found.now c.requires.found c.args.place c.requires.place

pub slots-init : goal.slots-init
slots-init c =
    listed_none (both_in c.args.found.now) c.args.found.now.sets.now c.args.place c.args.item c.in_ok-set.set
    c.in_ok-lookahead_count.field-0 c.in_ok-lookahead_count.ensures.count c.in_ok-set.ensures

pub add_slot-requires-clause-at : goal.add_slot-requires-clause-at
add_slot-requires-clause-at c =
    let len = slots_len c.args.found.now.sets.now c.args.place c.slots-slots.result.now c.slots-slots.ensures in
    omega (arith, len, c.slots-test.true)

pub returns : goal.returns
returns c =
    let len = slots_len c.args.found.now.sets.now c.args.place c.slots-slots.result.now c.slots-slots.ensures in (
      c.slots.invariant.len,
      listed_all (both_in c.args.found.now) c.args.found.now.sets.now c.args.place c.args.item c.slots.at c.slots.set
          (omega (arith, len, c.slots-test.false)) c.slots.invariant,
    )
