use Rattle.wb_determinism_beside.specs.Inner.Found.{both_in}
use Rattle.wb_determinism_beside.specs.Inner.Rows.{IsListedUpTo}
use Rattle.wb_determinism_beside.proofs.rows.listed_set.Given as goal

abbrev pub invariant-slots : goal.invariant-slots
invariant-slots l = IsListedUpTo (both_in l.found) l.found.sets.now l.place l.item l.at l.set
