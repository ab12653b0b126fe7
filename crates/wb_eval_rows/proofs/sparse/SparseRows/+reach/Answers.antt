use Rattle.std.proofs.Common.{rules, ◌≤◌, ◌%◌, ℕ}
use Rattle.std.proofs.lemmas.Result.{IfOk-weaker}
use Rattle.wb_eval_rows.specs.Inner.Nodes.{IsPlaced, IsReached}
use Rattle.wb_eval_rows.proofs.SparseLemmas.{with_first, with_links, placed_first, placed_below}
use Rattle.wb_eval_rows.proofs.sparse.SparseRows.+reach.Goals as goal

pub returns-then-block-lt16 : goal.returns-then-block-lt16
returns-then-block-lt16 t c =
    let s = c.args.self.now in
    let f : (n : ℕ) → IsPlaced s.first c.place.new.rows s.nodes c.place.new.nodes c.args.row c.args.block n
    → IsReached s (with_first s c.place.new.rows c.place.new.nodes) c.args.row c.args.block n =
    λ n. placed_first s c.requires.forest c.place.new.rows c.place.new.nodes c.args.row c.args.block n c.requires.some c.if-block-lt16.true in
    IfOk-weaker c.place.result _ _ f c.place.ensures

pub returns-in_ok-above : goal.returns-in_ok-above
returns-in_ok-above t c =
    let old = c.args.self.now in
    let s = c.reach.new.self in
    let above = c.in_ok-above.above in
    let le : 16 ≤ c.args.block = search rules in
    let rows = c.place-else-block-lt16.new.rows in
    let nodes = c.place-else-block-lt16.new.nodes in
    let f : (n : ℕ) → IsPlaced s.links rows s.nodes nodes above (c.args.block % 16) n
    → IsReached old (with_links s rows nodes) c.args.row c.args.block n =
    λ n. placed_below old s rows nodes c.args.row c.args.block above n le c.in_ok-above.ensures in
    IfOk-weaker c.place-else-block-lt16.result _ _ f c.place-else-block-lt16.ensures
