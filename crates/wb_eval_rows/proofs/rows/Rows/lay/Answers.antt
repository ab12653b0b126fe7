use Rattle.std.proofs.Common.{rules, ◌≡◌, Some, length, refl, arith, slice_get}
use Rattle.wb_lemmas.proofs.Places.{read_at}
use Rattle.wb_eval_rows.proofs.RowsLemmas.{rows_length, lay_is}
use Rattle.wb_eval_rows.proofs.rows.Rows.lay.Goals as goal

pub returns : goal.returns
returns c =
    let rows = c.self.inside.rows.items in
    let numbers = c.self.inside.numbers.items in
    let r = c.index-place.result.now in
    let count : length c.args.self.now ≡ length rows = rows_length numbers rows c.args.self.now c.self.view_is in
    let lt = c.requires in
    let there : slice_get rows c.args.row ≡ Some r = read_at rows rows c.args.row r refl (omega (arith, count, lt)) (search rules) in
    lay_is numbers rows c.self.invariant c.args.self.now c.self.view_is c.args.row r there c.args.column c.in_ok-width.width
    (record { first = c.len-first.result; width = c.in_ok-width.width }) c.add_copy.new.numbers.items c.in_ok-add_copy.ensures.ok (search rules) refl
    c.in_ok-width.ensures.width c.in_ok-width.ensures.column
