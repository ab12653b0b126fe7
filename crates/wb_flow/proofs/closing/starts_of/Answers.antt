use Rattle.std.proofs.Common.{◌<◌, ◌≤◌, length, sym, subst, arith}
use Rattle.std.proofs.lemmas.Option.{slice_get-get_or}
use Rattle.wb_flow.proofs.StartLemmas.{starts_begin, starts_more, starts_end}
use Rattle.wb_flow.proofs.closing.starts_of.Goals as goal

pub places-init : goal.places-init
places-init c =
    starts_begin c.args.vertices.now c.args.tops.now c.args.components.now c.in_ok-sets.sets.items c.len.result c.len-2.result c.len.ensures
    c.len-2.ensures c.in_ok-sets.ensures

pub of-requires : goal.of-requires
of-requires c = subst (λ n. c.places.place < n) (sym c.requires.len) c.places-test.true

pub add_start-requires-clause-component : goal.add_start-requires-clause-component
add_start-requires-clause-component c =
    subst (λ n. c.of.result < n) (sym c.places.invariant.sizes.len) (c.requires.below c.places.place c.of.result c.of.ensures)

pub add_start-requires-clause-len : goal.add_start-requires-clause-len
add_start-requires-clause-len c =
    c.places.invariant.sizes.each c.of.result (c.requires.below c.places.place c.of.result c.of.ensures)

pub places-preserved : goal.places-preserved
places-preserved c =
    starts_more c.args.vertices.now c.args.tops.now c.args.components.now c.places.sets.items c.add_start.new.sets.items c.places.place
    c.of.result _ (slice_get-get_or c.args.vertices.now c.places.place _ c.places-test.true) c.of.ensures c.places.invariant
    c.add_start.ensures

pub returns : goal.returns
returns c =
    let ended : length c.args.vertices.now ≤ c.places.place = omega arith in
    starts_end c.args.vertices.now c.args.tops.now c.args.components.now c.places.sets.items c.places.place ended c.places.invariant
