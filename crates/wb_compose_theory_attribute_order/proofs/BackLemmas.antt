-- New numbers by the other order are undone by those back.
use Rattle.std.proofs.Common.{◌≡◌, ◌∙◌, ℕ, List, Option, Some, None, length, refl, ap}
use Rattle.wb_compose_theory_attribute_order.specs.Renumberings.{AreNumbersUndoneBy, IsUndoneBy}
use Rattle.wb_compose_theory_order.proofs.NumberLemmas.{number_back, reordering_map}
use Rattle.wb_compose_theory_order.specs.Orders.{IsReordering}
use Rattle.wb_compose_theory_lists.specs.Additions.{Addition, Rows}
use Rattle.wb_compose_theory_lists.specs.Numbers.{host_locals}
use Rattle.wb_compose_theory_attribute_order.specs.Orders.{host_number, moved_local, reordered_numbers, reordered_rows}
use Rattle.wb_compose_theory_attribute_order.proofs.GroupedLemmas.{grouped_back}
use Rattle.wb_compose_theory_attribute_order.proofs.HostNumberLemmas.{host_number_same}

module _ (host : Rows) {all others : List Addition} {to from : ℕ → ℕ} (re : IsReordering to from all others) where
  local_back : (o : Option ℕ) (y : ℕ) → moved_local host others all from o (moved_local host all others to o y) ≡ y
  local_back None y = refl
  local_back (Some p) y = number_back (length (host_locals host p)) (reordering_map (λ (x : Addition). length (x.locals p)) re) y

  numbers_back : AreNumbersUndoneBy (reordered_numbers host all others to) (reordered_numbers host others all from)
  numbers_back = record {
    terminal = number_back host.terminals (reordering_map (λ (x : Addition). x.rows.terminals) re);
    nonterminal = grouped_back host re (length host.nonterminals) (length host.abstract_nonterminals)
        (λ (x : Addition). length x.rows.nonterminals) (λ (x : Addition). length x.rows.abstract_nonterminals);
    attribute = number_back (length host.attributes) (reordering_map (λ (x : Addition). length x.rows.attributes) re);
    production = grouped_back host re (length host.productions) (length host.abstract_productions)
        (λ (x : Addition). length x.rows.productions) (λ (x : Addition). length x.rows.abstract_productions);
    local_in = λ p y.
        ap (λ o. moved_local host others all from o (moved_local host all others to (host_number host all p) y))
        (host_number_same host re p) ∙ local_back (host_number host all p) y;
  }

  pub rows_back : IsUndoneBy (reordered_rows host all others to) (reordered_rows host others all from)
  rows_back = record { numbers = numbers_back; extension = re.undone }
