use Rattle.std.proofs.Common.{take}
use Rattle.wb_names_rows.specs.Base.{IsAttributeNow}
use Rattle.wb_names_rows.specs.Plains.{AddsEach}
use Rattle.wb_names_rows.proofs.base.add_attributes.Given as goal

abbrev pub invariant-loop-attribute : goal.invariant-loop-attribute
invariant-loop-attribute l = AddsEach (IsAttributeNow l.moves) (take l.attribute-index l.attributes) l.fn.made.items l.made.items
