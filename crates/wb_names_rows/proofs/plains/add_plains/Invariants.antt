use Rattle.std.proofs.Common.{take}
use Rattle.wb_names_theory.specs.Declarations.{plain_items}
use Rattle.wb_names_rows.specs.Plains.{AddsPlains}
use Rattle.wb_names_rows.proofs.plains.add_plains.Given as goal

abbrev pub invariant-loop-item : goal.invariant-loop-item
invariant-loop-item l = AddsPlains l.scope (plain_items (take l.item-index l.items)) l.fn.made l.made
