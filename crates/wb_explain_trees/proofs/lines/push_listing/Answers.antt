-- A heading, the lines, and what comes after them.
use Rattle.wb_explain_trees.specs.Inner.Sessions.{view_of}
use Rattle.wb_explain_trees.proofs.LineLemmas.{lists_items}
use Rattle.wb_explain_trees.proofs.lines.push_listing.Goals as goal

pub returns : goal.returns
returns c =
    lists_items (view_of c.args.shown.now.session.now c.args.shown.now.signatures.now c.args.shown.now.names.now) c.args.listing.now.items.items
    c.args.out.now.items c.push_text.new.out.items c.push_lines.new.out.items c.push_text-2.new.out.items c.more_of.result.now
    c.in_ok-push_text.ensures c.in_ok-push_lines.ensures c.in_ok-push_text-2.ensures
