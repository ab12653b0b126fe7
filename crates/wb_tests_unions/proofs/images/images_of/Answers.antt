use Rattle.std.proofs.Common.{◌+◌, subst, sym}
use Rattle.wb_determinism.specs.Images.{stands_for}
use Rattle.wb_determinism_beside.specs.Inner.Images.{AreImagesBy}
use Rattle.wb_determinism_beside.proofs.ImageLemmas.{images_more}
use Rattle.wb_tests_unions.proofs.images.images_of.Goals as goal

pub terminals-preserved : goal.terminals-preserved
terminals-preserved c =
    let own = c.args.added.own in
    let more = c.args.added.more in
    let phi = stands_for c.args.parts.now c.args.grammar.now in
    subst (AreImagesBy own more phi (c.terminals.terminal + 1)) (sym c.in_ok-push.ensures.ok)
    (images_more own more phi c.terminals.terminal c.terminals.images.items c.image_of-image.result c.terminals.invariant
    c.image_of-image.ensures)
