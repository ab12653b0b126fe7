use Rattle.std.proofs.Common.{refl}
use Rattle.wb_certify.proofs.PreferenceLemmas.{in_cycle, no_cycle, pairs_are, pairs_below}
use Rattle.wb_certify.proofs.marks.test_preferences.Goals as goal

pub preference_cycle-found-requires : goal.preference_cycle-found-requires
preference_cycle-found-requires c =
    pairs_below c.args.resolved.now c.parts-parts.result.now c.len.result c.deref.result.now c.parts-parts.ensures.whole
    c.parts-parts.ensures.parts c.len.ensures
    (pairs_are c.args.resolved.now c.parts-parts.result.now c.as_slice.result.now c.in_ok-pairs.pairs.items c.deref.result.now
    c.parts-parts.ensures.parts c.as_slice.ensures c.in_ok-pairs.ensures c.deref.ensures.value)

pub returns-in-Ok-Some-clause-refused : goal.returns-in-Ok-Some-clause-refused
returns-in-Ok-Some-clause-refused c = λ g host start. (
  c.requires g start,
  in_cycle c.args.resolved.now c.deref.result.now
      (pairs_are c.args.resolved.now c.parts-parts.result.now c.as_slice.result.now c.in_ok-pairs.pairs.items c.deref.result.now
      c.parts-parts.ensures.parts c.as_slice.ensures c.in_ok-pairs.ensures c.deref.ensures.value)
      c.in-Ok-Some.cycle.items c.from_vec.result c.from_vec.ensures (rw c.in-Ok-Some.field-0-is at c.in-Ok-Some.ensures.cycle),
)

pub returns-in-Ok-None-clause-ok : goal.returns-in-Ok-None-clause-ok
returns-in-Ok-None-clause-ok c =
    no_cycle c.args.resolved.now c.deref.result.now
    (pairs_are c.args.resolved.now c.parts-parts.result.now c.as_slice.result.now c.in_ok-pairs.pairs.items c.deref.result.now
    c.parts-parts.ensures.parts c.as_slice.ensures c.in_ok-pairs.ensures c.deref.ensures.value)
    ((rw c.in-Ok-None.field-0-is at c.in-Ok-None.ensures.none).0 refl)
