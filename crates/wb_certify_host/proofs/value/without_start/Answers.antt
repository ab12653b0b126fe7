use Rattle.std.proofs.Common.{refl}
use Rattle.wb_certify_host.proofs.RefusalLemmas.{in_cycle, no_start}
use Rattle.wb_certify_host.proofs.ValueLemmas.{pairs_are, pairs_below}
use Rattle.wb_certify_host.proofs.value.without_start.Goals as goal

pub preference_cycle-found-requires : goal.preference_cycle-found-requires
preference_cycle-found-requires c =
    pairs_below c.args.resolved.now c.parts-parts.result.now c.len.result c.deref.result.now c.parts-parts.ensures.whole
    c.parts-parts.ensures.parts c.len.ensures
    (pairs_are c.args.resolved.now c.parts-parts.result.now c.as_slice.result.now c.in-Ok.pairs.items c.deref.result.now
    c.parts-parts.ensures.parts c.as_slice.ensures c.in-Ok.ensures c.deref.ensures.value)

pub returns-in-Ok-Some : goal.returns-in-Ok-Some
returns-in-Ok-Some c =
    in_cycle c.args.resolved.now c.requires c.deref.result.now
    (pairs_are c.args.resolved.now c.parts-parts.result.now c.as_slice.result.now c.in-Ok.pairs.items c.deref.result.now
    c.parts-parts.ensures.parts c.as_slice.ensures c.in-Ok.ensures c.deref.ensures.value) c.in-Ok-Some.cycle.items c.from_vec.result
    c.from_vec.ensures (rw c.in-Ok-Some.field-0-is at c.in-Ok-Some.ensures.cycle)

pub returns-in-Ok-None : goal.returns-in-Ok-None
returns-in-Ok-None c =
    no_start c.args.resolved.now c.requires c.deref.result.now
    (pairs_are c.args.resolved.now c.parts-parts.result.now c.as_slice.result.now c.in-Ok.pairs.items c.deref.result.now
    c.parts-parts.ensures.parts c.as_slice.ensures c.in-Ok.ensures c.deref.ensures.value)
    ((rw c.in-Ok-None.field-0-is at c.in-Ok-None.ensures.none).0 refl)
