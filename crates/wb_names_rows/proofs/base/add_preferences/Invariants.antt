use Rattle.std.proofs.Common.{take}
use Rattle.wb_names_rows.specs.Base.{IsPreferenceNow}
use Rattle.wb_names_rows.specs.Plains.{AddsEach}
use Rattle.wb_names_rows.proofs.base.add_preferences.Given as goal

abbrev pub invariant-loop-preference : goal.invariant-loop-preference
invariant-loop-preference l = AddsEach (IsPreferenceNow l.moves) (take l.preference-index l.preferences) l.fn.made.items l.made.items
