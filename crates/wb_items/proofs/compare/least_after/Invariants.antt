use Rattle.wb_items.specs.Inner.Searches.{IsLeastAfter}
use Rattle.wb_items.proofs.compare.least_after.Given as goal

abbrev pub invariant-items : goal.invariant-items
invariant-items l = IsLeastAfter l.kernel l.place l.items l.at l.least
