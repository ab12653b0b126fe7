use Rattle.std.proofs.Common.{sym, ◌∙◌}
use Rattle.wb_lookahead.proofs.SpreadLemmas.{adds_to, is_place, place_of, spread_sound, spread_spreads}
use Rattle.wb_items.proofs.CallerLemmas.{lists_added, row_has, row_wide}
use Rattle.wb_lookahead.proofs.spread.spread.Goals as goal

pub place_near-at-requires-clause-item : goal.place_near-at-requires-clause-item
place_near-at-requires-clause-item c =
    row_has c.requires.kernels c.args.lookaheads.now c.requires.sound.shape c.args.state c.args.item c.requires.state c.requires.has

pub unite-requires-clause-len : goal.unite-requires-clause-len
unite-requires-clause-len c = λ looks there.
    row_wide c.requires.kernels c.args.lookaheads.now c.requires.sound.shape c.args.state c.place_near-at.result looks there ∙
    sym c.requires.len

pub returns-in_ok-add-clause-sound : goal.returns-in_ok-add-clause-sound
returns-in_ok-add-clause-sound c =
    spread_sound (place_of c.args.state c.args.item c.place_near-at.result)
    (is_place c.requires.kernels c.args.lookaheads.now c.requires.sound.shape c.args.state c.requires.state c.args.item
    c.place_near-at.result c.place_near-at.ensures)
    c.unite.ensures.united c.requires.sound c.requires.flows (adds_to c.note.ensures c.in_ok-add.ensures)

pub returns-in_ok-add-clause-spreads : goal.returns-in_ok-add-clause-spreads
returns-in_ok-add-clause-spreads c =
    spread_spreads (place_of c.args.state c.args.item c.place_near-at.result) c.unite.ensures c.if-unite.true
    c.requires.sound.places
    (is_place c.requires.kernels c.args.lookaheads.now c.requires.sound.shape c.args.state c.requires.state c.args.item
    c.place_near-at.result c.place_near-at.ensures)
    (adds_to c.note.ensures c.in_ok-add.ensures)

pub returns-in_ok-add-clause-lists : goal.returns-in_ok-add-clause-lists
returns-in_ok-add-clause-lists c = lists_added c.unite.ensures.united

pub returns-else-unite-clause-lists : goal.returns-else-unite-clause-lists
returns-else-unite-clause-lists c = lists_added c.unite.ensures.united
