use Rattle.std.proofs.Common.{◌-◌, length}
use Rattle.wb_lexical.specs.Inner.Rows.{Take}
use Rattle.wb_lexical.proofs.RowLemmas.{MembersBelow}
use Rattle.wb_lexical.proofs.rows.add_set.Given as goal

abbrev pub invariant-members : goal.invariant-members
invariant-members l = Take (MembersBelow l.set l.from) l.fn.rows.items l.rows.items

abbrev pub decreases-members : goal.decreases-members
decreases-members l = length l.set - l.from
