use Rattle.wb_items.specs.Inner.Passes.{RowsUpTo}
use Rattle.wb_items.proofs.productions_of.production_numbers.Given as goal

abbrev pub invariant-productions : goal.invariant-productions
invariant-productions l = RowsUpTo l.grammar l.rows.items l.production
