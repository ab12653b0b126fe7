-- What the laws say of a host with extensions in two orders.
use Rattle.std.specs.Prelude.{ℕ, List}
use Rattle.wb_compose_theory_lists.specs.Additions.{Addition, Rows}
use Rattle.wb_compose_theory_lists.specs.Laws.{AreAdded}
use Rattle.wb_compose_theory_lists.specs.United.{united_attribution}
use Rattle.wb_compose_theory_attribute_order.specs.Attributions.{IsSameAttribution}
use Rattle.wb_compose_theory_order.specs.Orders.{IsReordering}
use Rattle.wb_compose_theory_attribute_order.specs.Orders.{reordered_rows}

-- what extensions add, they add in the other order
abbrev pub IsUnitedInOtherOrder : Rows → (all others : List Addition) → (to from : ℕ → ℕ) → Type 0
IsUnitedInOtherOrder host all others to from = AreAdded host all → IsReordering to from all others → AreAdded host others

-- the united attributions are one, in other numbers
abbrev pub AreSameUnion : Rows → (all others : List Addition) → (to from : ℕ → ℕ) → Type 0
AreSameUnion host all others to from =
    AreAdded host all → IsReordering to from all others →
    IsSameAttribution (reordered_rows host all others to) (reordered_rows host others all from) (united_attribution host all)
    (united_attribution host others)
