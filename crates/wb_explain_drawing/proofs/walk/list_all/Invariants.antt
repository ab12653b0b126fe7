-- What is listed and what is left is the whole listing.
use Rattle.std.proofs.Common.{◌≡◌, ◌++◌}
use Rattle.wb_values.specs.ValuesIn.{tree_in}
use Rattle.wb_explain_drawing.specs.Listings.{listed}
use Rattle.wb_explain_drawing.specs.Inner.Remaining.{remaining}
use Rattle.wb_explain_drawing.proofs.walk.list_all.Given as goal

abbrev pub invariant-steps : goal.invariant-steps
invariant-steps l = listed l.levels 0 0 (tree_in l.store l.fn.root.0) ≡ l.listing.items.items ++ remaining l.levels l.store l.stack l.leaf
