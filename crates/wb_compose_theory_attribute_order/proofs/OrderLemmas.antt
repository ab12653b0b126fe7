-- The union of extensions in one order is that in the other, in new numbers.
use Rattle.std.proofs.Common.{◌≡◌, ◌∙◌, ℕ, List, Some, slice_get, sym, ap}
use Rattle.wb_base.specs.Different.{Differ}
use Rattle.wb_lemmas.proofs.Elements.{all_at, all_from_places}
use Rattle.wb_compose_theory_attribute_order.specs.Attributions.{AttributionLeadsTo}
use Rattle.wb_compose_theory_order.proofs.NumberLemmas.{reordering_back, reordering_map}
use Rattle.wb_compose_theory_order.specs.Orders.{IsReordering}
use Rattle.wb_compose_theory_attributes.specs.Unions.{IsWithin}
use Rattle.wb_compose_theory_lists.specs.Additions.{Addition, IsAddition, Rows}
use Rattle.wb_compose_theory_lists.specs.Laws.{AreAdded}
use Rattle.wb_compose_theory_lists.specs.United.{united_attribution}
use Rattle.wb_compose_theory_lists.proofs.WithinLemmas.{is_within}
use Rattle.wb_compose_theory_attribute_order.specs.OrderLaws.{AreSameUnion, IsUnitedInOtherOrder}
use Rattle.wb_compose_theory_attribute_order.specs.Orders.{reordered_rows}
use Rattle.wb_compose_theory_attribute_order.proofs.BackLemmas.{rows_back}
use Rattle.wb_compose_theory_attribute_order.proofs.ProductionLemmas.{production_there}
use Rattle.wb_compose_theory_attribute_order.proofs.OrderRowLemmas.{AreOwn, attributes_there, nonterminals_there, occurrences_there}

-- different names stay different in another order
pub differ_there : {X : Type 0} {to from : ℕ → ℕ} {xs ys : List X} → IsReordering to from xs ys → Differ xs → Differ ys
differ_there {to = to} {from = from} re differ x i j at at' =
    sym (re.redone i) ∙ (ap to (differ x (from i) (from j) (re.back i x at) (re.back j x at')) ∙ re.redone j)

pub added_there : (host : Rows) (all others : List Addition) (to from : ℕ → ℕ) → IsUnitedInOtherOrder host all others to from
added_there host all others to from added re = record {
  host_roles = added.host_roles;
  host_once = added.host_once;
  each = all_from_places IsAddition others (λ k x at. all_at IsAddition all (from k) x added.each (re.back k x at));
  differ = differ_there (reordering_map (λ (x : Addition). x.name) re) added.differ;
}

module _ (host : Rows) (all : List Addition) (added : AreAdded host all) where
  addition_at : (l : ℕ) (y : Addition) → slice_get all l ≡ Some y → IsAddition y
  addition_at l y at = all_at IsAddition all l y added.each at

  all_own : AreOwn all
  all_own l y at = (addition_at l y at).own

  all_within : IsWithin (united_attribution host all)
  all_within = is_within host all all_own (λ l y at. (addition_at l y at).written) added.host_once (λ l y at. (addition_at l y at).once)
      (λ l y at. (addition_at l y at).aspects_once)

union_leads : (host : Rows) (all others : List Addition) (to from : ℕ → ℕ) → AreAdded host all → AreAdded host others
    → IsReordering to from all others
    → AttributionLeadsTo (reordered_rows host all others to) (united_attribution host all) (united_attribution host others)
union_leads host all others to from added added' re =
    let own = all_own host all added in
    let own' = all_own host others added' in
    let within = all_within host all added in
    record {
      extensions = (reordering_map (λ (x : Addition). x.name) re).there;
      nonterminals = nonterminals_there host re own own' within;
      attributes = attributes_there host re own own' within;
      occurrences = occurrences_there host re own own' within;
      productions = production_there host re own own' within;
    }

pub same_union : (host : Rows) (all others : List Addition) (to from : ℕ → ℕ) → AreSameUnion host all others to from
same_union host all others to from added re =
    let added' = added_there host all others to from added re in
    record {
      there = union_leads host all others to from added added' re;
      back = union_leads host others all from to added' added (reordering_back re);
      undone = rows_back host re;
      redone = rows_back host (reordering_back re);
    }
