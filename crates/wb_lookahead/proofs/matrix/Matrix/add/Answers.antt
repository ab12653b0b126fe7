use Rattle.std.proofs.Common.{◌≡◌, ◌+◌, length, ap, sym, ◌∙◌, arith}
use Rattle.std.proofs.lemmas.Grind.{common_steps}
use Rattle.wb_lookahead.specs.Matrices.{MatrixView}
use Rattle.wb_lookahead.proofs.MatrixLemmas.{matrix_more}
use Rattle.wb_lookahead.proofs.matrix.Matrix.add.Goals as goal

pub returns : goal.returns
returns c =
    let len : length c.args.row.now ≡ c.self.inside.width = c.requires ∙ ap (λ (g : MatrixView). g.width) (sym c.self.view_is) in
    let more : c.in-Some.height ≡ c.self.inside.height + 1 = grind (arith, common_steps) in
    rw (← c.self.view_is)
    (matrix_more c.self.inside.height c.in-Some.height c.self.inside.width c.self.inside.codes.items c.extend_from_slice.new.self.items
    c.args.row.now c.self.invariant len more c.in_ok-extend_from_slice.ensures.items)
