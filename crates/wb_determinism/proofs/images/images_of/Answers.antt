use Rattle.std.proofs.Common.{◌+◌, subst, sym}
use Rattle.wb_determinism.specs.Images.{stands_for, AreImages}
use Rattle.wb_determinism.proofs.ImageLemmas.{images_more}
use Rattle.wb_determinism.proofs.images.images_of.Goals as goal

pub terminals-preserved : goal.terminals-preserved
terminals-preserved c =
    let m = c.args.numbers.now in
    let phi = stands_for c.args.parts.now c.args.grammar.now in
    subst (AreImages m phi (c.terminals.terminal + 1)) (sym c.in_ok-push.ensures.ok)
    (images_more m phi c.terminals.terminal c.terminals.images.items c.image_of-image.result c.terminals.invariant c.image_of-image.ensures)
