-- The lines are of the tree of the text.
use Rattle.std.proofs.Common.{◌<◌, length, subst, sym}
use Rattle.wb_values.specs.ValuesIn.{tree_in}
use Rattle.wb_explain_drawing.specs.Listings.{IsListing}
use Rattle.wb_explain_drawing.proofs.PushedLemmas.{on_ok}
use Rattle.wb_explain_trees.proofs.LineLemmas.{says_tree}
use Rattle.wb_explain_trees.proofs.lines.push_session.Goals as goal

pub listing_of-requires : goal.listing_of-requires
listing_of-requires c = subst (λ store. c.in-Some.root.0 < length store) (sym c.store.ensures) c.in-Some.ensures.tree.held

pub returns : goal.returns
returns c =
    on_ok c.push_listing-answer.result _ _
    (says_tree c.args.shown.now.session.now.language c.args.shown.now.session.now c.args.shown.now.signatures.now c.args.shown.now.names.now
    c.in-Some.root.0 c.in_ok-listing.listing.items.items c.in_ok-listing.listing.whole c.args.out.now.items
    c.push_listing-answer.new.out.items c.in-Some.ensures
    (subst (λ store. IsListing 18446744073709551615 (tree_in store c.in-Some.root.0) c.in_ok-listing.listing.items.items c.in_ok-listing.listing.whole)
    c.store.ensures c.in_ok-listing.ensures)) c.push_listing-answer.ensures
