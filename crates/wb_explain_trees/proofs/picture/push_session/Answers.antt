-- The picture is of the tree of the text.
use Rattle.std.proofs.Common.{◌<◌, length, subst, sym}
use Rattle.wb_values.specs.ValuesIn.{tree_in}
use Rattle.wb_explain_drawing.specs.Listings.{IsListing}
use Rattle.wb_explain_drawing.proofs.PushedLemmas.{on_ok}
use Rattle.wb_explain_trees.proofs.PictureLemmas.{says_picture}
use Rattle.wb_explain_trees.proofs.picture.push_session.Goals as goal

pub levels_of-requires : goal.levels_of-requires
levels_of-requires c = subst (λ store. c.in-Some.root.0 < length store) (sym c.store-store.ensures) c.in-Some.ensures.tree.held

pub listing_of-requires : goal.listing_of-requires
listing_of-requires c = subst (λ store. c.in-Some.root.0 < length store) (sym c.store-store.ensures) c.in-Some.ensures.tree.held

pub returns : goal.returns
returns c =
    on_ok c.push_listing-answer.result _ _
    (says_picture c.args.shown.now.session.now.language c.args.shown.now.session.now c.args.shown.now.signatures.now
    c.args.shown.now.names.now c.in-Some.root.0 c.in_ok-levels.levels c.in_ok-listing.listing.items.items c.in_ok-listing.listing.whole
    c.args.out.now.items c.push_listing-answer.new.out.items c.in-Some.ensures
    (subst (λ store. IsListing c.in_ok-levels.levels (tree_in store c.in-Some.root.0) c.in_ok-listing.listing.items.items c.in_ok-listing.listing.whole)
    c.store-store.ensures c.in_ok-listing.ensures)) c.push_listing-answer.ensures
