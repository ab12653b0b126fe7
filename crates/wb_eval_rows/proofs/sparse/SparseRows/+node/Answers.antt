use Rattle.std.proofs.Common.{rules, ◌≡◌, ◌≤◌, ◌<◌, ◌∙◌, ◌/◌, ◌%◌, ap, sym}
use Rattle.wb_eval_rows.specs.Rows.{at}
use Rattle.wb_eval_rows.specs.Sparse.{node_of}
use Rattle.wb_eval_rows.proofs.DigitLemmas.{node_near, node_far}
use Rattle.wb_eval_rows.proofs.sparse.SparseRows.+node.Goals as goal

pub returns-then-block-lt16 : goal.returns-then-block-lt16
returns-then-block-lt16 t c =
    let s = c.args.self.now in
    c.get.ensures ∙ sym (node_near s.first s.links c.args.row c.args.block c.requires c.if-block-lt16.true)

pub returns-else-block-lt16 : goal.returns-else-block-lt16
returns-else-block-lt16 t c =
    let s = c.args.self.now in
    let le : 16 ≤ c.args.block = search rules in
    c.get-else-block-lt16.ensures ∙ ap (λ n. at s.links n (c.args.block % 16)) c.node-above.ensures
    ∙ sym (node_far s.first s.links c.args.row c.args.block le)
