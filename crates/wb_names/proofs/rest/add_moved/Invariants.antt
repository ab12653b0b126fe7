use Rattle.std.proofs.Common.{take}
use Rattle.wb_names_rows.specs.Moves.{IsNow}
use Rattle.wb_names_rows.specs.Plains.{AddsEach}
use Rattle.wb_names.proofs.rest.add_moved.Given as goal

abbrev pub invariant-numbers : goal.invariant-numbers
invariant-numbers l = AddsEach (IsNow l.moves.nonterminals.items) (take l.number-index l.numbers) l.fn.made.items l.made.items
