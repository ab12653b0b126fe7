use Rattle.std.proofs.Common.{◌+◌, ℕ, arith, length, refl}
use Rattle.wb_automata_positions.proofs.ParentLemmas.{one_parent}
use Rattle.wb_automata_positions.proofs.PlaceListLemmas.{machine_of}
use Rattle.wb_automata_positions.proofs.places.places_of.Goals as goal

pub all_places-requires : goal.all_places-requires
all_places-requires c = rw (c.as_slice.ensures.value, c.as_slice-2.ensures.value)
    (one_parent c.args.terminals.now c.in_ok-all.all.nodes.items c.in_ok-all.all.roots.items c.in_ok-all.ensures)

pub shorten-requires-clause-below : goal.shorten-requires-clause-below
shorten-requires-clause-below c =
    let twice : ℕ = length c.in_ok-all.all.nodes.items + length c.in_ok-all.all.nodes.items in
    let m = machine_of c.args.terminals.now c.in_ok-all.all.nodes.items
    (record { places = c.in_ok-places.places; starts = c.in_ok-all.all.roots; first_end = twice }) c.in_ok-all.ensures
    (rw (c.as_slice.ensures.value, c.as_slice-2.ensures.value) at c.in_ok-places.ensures) refl in
    m.below

pub shorten-requires-clause-starts : goal.shorten-requires-clause-starts
shorten-requires-clause-starts c k lt =
    let twice : ℕ = length c.in_ok-all.all.nodes.items + length c.in_ok-all.all.nodes.items in
    let m = machine_of c.args.terminals.now c.in_ok-all.all.nodes.items
    (record { places = c.in_ok-places.places; starts = c.in_ok-all.all.roots; first_end = twice }) c.in_ok-all.ensures
    (rw (c.as_slice.ensures.value, c.as_slice-2.ensures.value) at c.in_ok-places.ensures) refl in
    m.starts_below k (omega (arith, m.starts_len))

pub returns : goal.returns
returns c = c.in_ok-shorten.ensures c.args.terminals.now (c.len-size.result + c.len-size.result)
    (machine_of c.args.terminals.now c.in_ok-all.all.nodes.items
    (record { places = c.in_ok-places.places; starts = c.in_ok-all.all.roots; first_end = c.len-size.result + c.len-size.result })
    c.in_ok-all.ensures
    (rw (c.as_slice.ensures.value, c.as_slice-2.ensures.value) at c.in_ok-places.ensures) (omega arith))
