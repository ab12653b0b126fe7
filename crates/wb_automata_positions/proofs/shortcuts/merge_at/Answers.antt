use Rattle.std.proofs.Common.{arith}
use Rattle.wb_automata_positions.proofs.MergeLemmas.{next_in, one_with, star_in}
use Rattle.wb_automata_positions.proofs.shortcuts.merge_at.Goals as goal

pub index-star-requires : goal.index-star-requires
index-star-requires c =
    let lt = next_in c.args.places.now.items c.args.i _ c.index.result.now c.in-Fork.part c.in-Fork.next c.requires.below c.requires.within
    c.index.ensures c.in-Fork.is in
    omega (arith, lt, c.requires.len, c.args.entry.now.ok.0)

pub index-requires-2 : goal.index-requires-2
index-requires-2 c =
    let lt = next_in c.args.places.now.items c.args.i _ c.index.result.now c.in-Fork.part c.in-Fork.next c.requires.below c.requires.within
    c.index.ensures c.in-Fork.is in
    let star = star_in c.args.places.now.items c.args.entry.now.items c.in-Fork.next c.index-star.result.now _ c.requires.entry
    (omega (arith, lt, c.requires.len)) c.index-star.ensures in
    omega (arith, star, c.args.places.now.ok.0)

pub index_mut-requires : goal.index_mut-requires
index_mut-requires c =
    let lt = next_in c.args.places.now.items c.args.i _ c.index.result.now c.in-Fork.part c.in-Fork.next c.requires.below c.requires.within
    c.index.ensures c.in-Fork.is in
    let star = star_in c.args.places.now.items c.args.entry.now.items c.in-Fork.next c.index-star.result.now _ c.requires.entry
    (omega (arith, lt, c.requires.len)) c.index-star.ensures in
    omega (arith, star, c.args.places.now.ok.0)

pub returns : goal.returns
returns c =
    let lt = next_in c.args.places.now.items c.args.i _ c.index.result.now c.in-Fork.part c.in-Fork.next c.requires.below c.requires.within
    c.index.ensures c.in-Fork.is in
    let star = star_in c.args.places.now.items c.args.entry.now.items c.in-Fork.next c.index-star.result.now _ c.requires.entry
    (omega (arith, lt, c.requires.len)) c.index-star.ensures in
    one_with c.args.i c.args.places.now.items c.args.entry.now.items _ _ c.index.result.now c.index-2.result.now _ c.in-Fork.part
    c.in-Fork.next c.in-Fork-index.body c.in-Fork-index.other c.index-star.result.now c.requires.within c.index.ensures c.in-Fork.is
    (omega (arith, c.if-next-i.false)) (omega (arith, lt, c.requires.len)) star
    c.index-star.ensures c.index-2.ensures c.in-Fork-index.is (omega (arith, c.if-body-i.false))
