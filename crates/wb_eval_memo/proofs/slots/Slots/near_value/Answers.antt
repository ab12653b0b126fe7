use Rattle.std.proofs.Common.{◌≡◌, ◌∙◌, ◌<◌, Some, sym, ap, refl, rules, arith, slice_get, length}
use Rattle.wb_lemmas.proofs.Places.{default_at, read_at}
use Rattle.wb_eval_memo.specs.Slots.{known_in, cell_at}
use Rattle.wb_eval_memo.specs.declared.cell.Cell.TheVariants as cell
use Rattle.wb_eval_memo.proofs.slots.Slots.near_value.Goals as goal

pub index-requires-in-Large : goal.index-requires-in-Large
index-requires-in-Large c =
    let (sites, slots) = c.requires.slots in
    let cells = c.args.self.now.near.items in
    let r = c.index.result.now in
    let at : slice_get cells c.args.place ≡ Some r = read_at cells cells c.args.place r refl c.requires.within (search rules) in
    let here : cell_at cells c.args.place ≡ cell.Large c.in-Large.number = default_at cells c.args.place cell.Unknown r at ∙ c.in-Large.is in
    let h = slots.places c.args.place c.in-Large.number here in
    let len = c.args.self.now.large.ok.0 in
    omega (arith, h, len)

pub returns-in_ok-copy-in-Large : goal.returns-in_ok-copy-in-Large
returns-in_ok-copy-in-Large c =
    let (sites, slots) = c.requires.slots in
    let cells = c.args.self.now.near.items in
    let large = c.args.self.now.large.items in
    let r = c.index.result.now in
    let v = c.in_ok-copy-in-Large.field-0 in
    let at : slice_get cells c.args.place ≡ Some r = read_at cells cells c.args.place r refl c.requires.within (search rules) in
    let here : cell_at cells c.args.place ≡ cell.Large c.in-Large.number = default_at cells c.args.place cell.Unknown r at ∙ c.in-Large.is in
    let within : c.in-Large.number < length large = slots.places c.args.place c.in-Large.number here in
    sym (ap (known_in large) here ∙ read_at large large c.in-Large.number v refl within (search rules))
