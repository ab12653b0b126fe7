-- The elements so far, and the cursor in its line and column.
use Rattle.std.proofs.Common.{◌-◌, take, vec_len}
use Rattle.wb_explain_drawing.specs.Pushed.{Pushes}
use Rattle.wb_explain_drawing.specs.Reached.{IsReached}
use Rattle.wb_explain_trees.specs.Inner.Sessions.{view_of}
use Rattle.wb_explain_trees.specs.Pictures.{IsElement}
use Rattle.wb_explain_trees.proofs.picture.push_elements.Given as goal

abbrev pub invariant-items : goal.invariant-items
invariant-items l = record {
  reached : IsReached l.shown.session.now.text l.cursor;
  elements : Pushes (IsElement (view_of l.shown.session.now l.shown.signatures.now l.shown.names.now)) (take l.place l.listing.items.items)
      l.initial.out.items l.out.items;
}

abbrev pub decreases-items : goal.decreases-items
decreases-items l = vec_len l.listing.items - l.place
