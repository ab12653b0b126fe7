use Rattle.std.proofs.Common.{◌<◌, ◌∙◌, ap, arith, get_or, length, subst}
use Rattle.wb_automata_positions.specs.Inner.Closures.{Adds}
use Rattle.wb_automata_positions.specs.NodePlaces.{place_of}
use Rattle.wb_automata_positions.specs.Places.{GoesOn}
use Rattle.wb_automata_positions.proofs.ClosureLemmas.{closes_begin, closes_more, place_is}
use Rattle.wb_automata_positions.proofs.closure.close.Goals as goal

pub places-init : goal.places-init
places-init c = closes_begin c.args.nodes.now c.args.next.now c.args.met.now

pub places-preserved : goal.places-preserved
places-preserved c =
    let lt : c.places.i < length c.places.met = omega (arith, c.places-test.true, ap length c.as_slice.ensures) in
    let is = place_is c.args.nodes.now c.args.next.now _ c.place_at-place.result c.place_at-place.ensures in
    closes_more c.args.nodes.now c.args.next.now c.args.met.now c.places.met c.meet_next.new.met c.places.i lt
    (subst (λ z. Adds (GoesOn z) c.places.met c.meet_next.new.met)
    (is ∙ ap (λ z. place_of c.args.nodes.now c.args.next.now (get_or z c.places.i 0)) c.as_slice-in-places.ensures)
    c.in_ok-meet_next.ensures) c.places.invariant
