use Rattle.std.proofs.Common.{◌≡◌, Some, subst, arith}
use Rattle.std.specs.Prelude.{slice_get}
use Rattle.std.proofs.lemmas.List.{length-map}
use Rattle.std.proofs.lemmas.Option.{slice_get_within}
use Rattle.wb_items.specs.declared.item_lookahead.ItemLookahead.{ItemLookahead}
use Rattle.wb_items.specs.Lookaheads.{items_in, row_of}
use Rattle.wb_items.proofs.RowLemmas.{row_items_are}
use Rattle.wb_determinism_lookaheads.proofs.lifts.set_number.Goals as goal

pub number_at-requires-clause-place : goal.number_at-requires-clause-place
number_at-requires-clause-place c =
    let row = row_of c.args.context.now.known.now c.args.state in
    let within = slice_get_within (items_in row) c.in-Some.place c.args.item c.in-Some.ensures in
    let len = length-map row (λ (l : ItemLookahead). l.item) in
    omega (arith, within, len)

pub returns-clause-number : goal.returns-clause-number
returns-clause-number c = (
  c.in-Some.place,
  subst (λ z. slice_get z c.in-Some.place ≡ Some c.args.item) (row_items_are c.requires.context.known.shape.numbered c.args.state)
      c.in-Some.ensures,
  c.number_at.ensures.number,
)
