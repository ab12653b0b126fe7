-- The root is listed and opened.
use Rattle.wb_explain_drawing.proofs.ListingLemmas.{root_leads}
use Rattle.wb_explain_drawing.proofs.walk.begin.Goals as goal

pub returns : goal.returns
returns c =
    root_leads c.args.levels c.args.store.now c.args.listing.now.items.items c.add.new.listing.items.items c.args.root c.production.result c.args.stack.now
    c.push.new.self c.requires.none c.requires.closed c.production.ensures c.in_ok-add.ensures c.in_ok-push.ensures.ok
