use Rattle.std.proofs.Common.{take}
use Rattle.wb_names_rows.specs.Base.{IsOccurrenceNow}
use Rattle.wb_names_rows.specs.Plains.{AddsEach}
use Rattle.wb_names_rows.proofs.base.add_occurrences.Given as goal

abbrev pub invariant-loop-occurrence : goal.invariant-loop-occurrence
invariant-loop-occurrence l = AddsEach (IsOccurrenceNow l.moves) (take l.occurrence-index l.occurrences) l.fn.made.items l.made.items
