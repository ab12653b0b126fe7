use Rattle.std.proofs.Common.{refl, arith, length-set, ◌+◌, ◌∙◌, length, sym, ap, subst}
use Rattle.wb_items.specs.Inner.Parts.{PlacesUpTo}
use Rattle.wb_items.proofs.PartsLemmas.{places_note, places_pass}
use Rattle.wb_items.proofs.parts.note.Goals as goal

pub returns-then-found : goal.returns-then-found
returns-then-found c = (
  refl,
  places_pass c.args.moves.now c.args.places.now.items c.args.place c.move_at-found.result c.move_at-found.ensures
      (λ less _. absurd (omega (arith, less, c.if-found.true))) c.requires.before,
)

pub returns-then-found-len : goal.returns-then-found-len
returns-then-found-len c = (
  refl,
  places_pass c.args.moves.now c.args.places.now.items c.args.place c.move_at-found.result c.move_at-found.ensures
      (λ _ within. absurd (omega (arith, within, c.if-found-len.true, c.len.ensures, c.args.places.now.ok.0))) c.requires.before,
)

pub returns : goal.returns
returns c =
    let is = c.put.ensures in
    let places = c.args.places.now.items in
    let m = c.move_at-found.result in (
      ap length is ∙ length-set places m.2 c.args.place,
      subst (λ z. PlacesUpTo c.args.moves.now z (c.args.place + 1)) (sym is)
          (places_note c.args.moves.now places c.args.place m c.move_at-found.ensures (omega (arith, c.if-found.false))
          (omega (arith, c.if-found-len.false, c.len.ensures, c.args.places.now.ok.0)) c.requires.before),
    )
