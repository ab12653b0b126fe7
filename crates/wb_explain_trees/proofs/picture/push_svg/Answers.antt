-- The first bytes, what is before the elements, these, and the last bytes.
use Rattle.wb_explain_trees.specs.Inner.Sessions.{view_of}
use Rattle.wb_explain_trees.proofs.PictureLemmas.{has_drawn}
use Rattle.wb_explain_trees.proofs.picture.push_svg.Goals as goal

pub returns : goal.returns
returns c =
    has_drawn (view_of c.args.shown.now.session.now c.args.shown.now.signatures.now c.args.shown.now.names.now) c.args.listing.now.items.items c.args.out.now.items c.push_text.new.out.items
    c.extend_from_slice.new.self.items c.push_elements.new.out.items c.push_text-2.new.out.items c.args.head.now c.in_ok-push_text.ensures
    c.in_ok-extend_from_slice.ensures.items c.in_ok-push_elements.ensures c.in_ok-push_text-2.ensures
