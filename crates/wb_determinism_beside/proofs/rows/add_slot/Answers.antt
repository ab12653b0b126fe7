use Rattle.std.proofs.Common.{◌∙◌, sym}
use Rattle.std.proofs.lemmas.Bool.{true≢false}
use Rattle.wb_determinism_beside.specs.Inner.Found.{both_in}
use Rattle.wb_determinism_beside.proofs.ListedLemmas.{listed_skip, listed_union, slot_at}
use Rattle.wb_determinism_beside.proofs.rows.add_slot.Goals as goal

pub returns-then-not-is_together : goal.returns-then-not-is_together
returns-then-not-is_together c =
    listed_skip (both_in c.args.found.now) c.args.found.now.sets.now c.args.place c.args.item c.args.at _ c.args.set.now
    (slot_at c.args.found.now.sets.now c.args.place c.slots-slots.result.now c.args.at _ c.slots-slots.ensures c.requires.at)
    c.requires.before (λ joined. true≢false (sym (c.is_together.ensures.1 joined) ∙ c.if-not-is_together.true))

pub returns : goal.returns
returns c =
    listed_union (both_in c.args.found.now) c.args.found.now.sets.now c.args.place c.args.item c.args.at _ c.args.set.now
    (slot_at c.args.found.now.sets.now c.args.place c.slots-slots.result.now c.args.at _ c.slots-slots.ensures c.requires.at)
    c.requires.before c.in-Some.other.now c.union_with.new.self (c.is_together.ensures.0 c.if-not-is_together.false)
    c.in-Some.ensures.is c.union_with.ensures.after
