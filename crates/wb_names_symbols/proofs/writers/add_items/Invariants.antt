use Rattle.std.proofs.Common.{take}
use Rattle.wb_names_symbols.specs.Writers.{AreWriters}
use Rattle.wb_names_symbols.proofs.writers.add_items.Given as goal

abbrev pub invariant-items : goal.invariant-items
invariant-items l = AreWriters l.items (take l.place l.items) l.made
