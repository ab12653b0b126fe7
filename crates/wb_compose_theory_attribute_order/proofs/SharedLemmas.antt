-- The numbers of an owner in the one order become its numbers in the other.
use Rattle.std.proofs.Common.{◌≡◌, ◌∙◌, ◌≤◌, ℕ, zero, suc, List, Option, Some, None, length, map, refl, sym, ap, inl, inr, arith}
use Rattle.std.proofs.lemmas.List.{length-map}
use Rattle.wb_lemmas.proofs.Places.{at_within}
use Rattle.wb_compose_theory_attribute_order.specs.Renumberings.{owner_by}
use Rattle.wb_compose_theory_order.specs.Orders.{IsReordering}
use Rattle.wb_compose_theory_attributes.specs.Numbers.{NumberMap}
use Rattle.wb_compose_theory_attributes.specs.Rows.{new_owner}
use Rattle.wb_compose_theory_lists.specs.Additions.{Addition, Rows, nothing}
use Rattle.wb_compose_theory_lists.specs.Numbers.{host_locals, local_number, number_without, numbers_of}
use Rattle.wb_compose_theory_lists.proofs.EachLemmas.{IsView, of_host, of_own}
use Rattle.wb_compose_theory_lists.proofs.NumberLemmas.{IsMember}
use Rattle.wb_compose_theory_lists.proofs.TwiceLemmas.{AreOwnersTwice, IsTwice}
use Rattle.wb_compose_theory_attribute_order.specs.Orders.{moved_local, reordered_numbers}
use Rattle.wb_compose_theory_attribute_order.proofs.GroupedLemmas.{grouped_moved}
use Rattle.wb_compose_theory_attribute_order.proofs.HostNumberLemmas.{host_number_kept}
use Rattle.wb_compose_theory_attribute_order.proofs.MovedLemmas.{IsIn, after_moved, extension_in, host_in}

-- new owners in the other order
module _ (to : ℕ → ℕ) where
  host_owner : (w : ℕ) → owner_by to (new_owner 0 w) ≡ new_owner 0 w
  host_owner zero = refl
  host_owner (suc w) = refl

  extension_owner : (k l w : ℕ) → l ≡ to k → owner_by to (new_owner (suc k) w) ≡ new_owner (suc l) w
  extension_owner k l zero is = refl
  extension_owner k l (suc w) is = ap suc (sym is)

module _ {all others : List Addition} {to : ℕ → ℕ} where
  pub member_here : {owner other k l : ℕ} {x : Addition} → IsIn all others to owner other k l x → IsMember all k x
  member_here host_in = inl refl
  member_here (extension_in is is' l_is at at') = inr at

  pub view_here : {owner other k l : ℕ} {x : Addition} → IsIn all others to owner other k l x → IsView all owner k x
  view_here host_in = of_host refl refl
  view_here (extension_in is is' l_is at at') = of_own is at

  pub view_there : {owner other k l : ℕ} {x : Addition} → IsIn all others to owner other k l x → IsView others other l x
  view_there host_in = of_host refl refl
  view_there (extension_in is is' l_is at at') = of_own is' at'

  -- whose something is
  pub owner_there : {owner other k l : ℕ} {x : Addition} → IsIn all others to owner other k l x → (w : ℕ)
      → owner_by to (new_owner owner w) ≡ new_owner other w
  owner_there host_in w = host_owner to w
  owner_there (extension_in {k = k} {l = l} is is' l_is at at') w =
      ap (λ z. owner_by to (new_owner z w)) is ∙ (extension_owner to k l w l_is ∙ ap (λ z. new_owner z w) (sym is'))

-- an owner in both orders
pub record InBoth (all others : List Addition) (to : ℕ → ℕ) (owner : ℕ) : Type 0 where
  pub other : ℕ
  pub k : ℕ
  pub l : ℕ
  pub x : Addition
  pub is_in : IsIn all others to owner other k l x

pub in_both : {all others : List Addition} {to from : ℕ → ℕ} → IsReordering to from all others → (owner : ℕ)
    → owner ≤ length (map (λ (x : Addition). x.name) all) → InBoth all others to owner
in_both re zero within = record { other = 0; k = 0; l = 0; x = nothing; is_in = host_in }
in_both {all} {others} {to} re (suc k) within =
    let len = length-map all (λ (x : Addition). x.name) in
    let (x, at) = at_within all k (omega (arith, within, len)) in
    record { other = suc (to k); k = k; l = to k; x = x; is_in = extension_in refl refl refl at (re.there k x at) }

-- new owners don't matter twice
pub no_owners : (i : ℕ) → AreOwnersTwice i 0 0
no_owners i = record { is = λ w. host_zero (new_owner i w) ∙ sym (host_zero w) } where
  host_zero : (w : ℕ) → new_owner 0 w ≡ 0
  host_zero zero = refl
  host_zero (suc w) = refl

module _ (host : Rows) {all others : List Addition} {to from : ℕ → ℕ} (re : IsReordering to from all others)
    {owner other k l : ℕ} {x : Addition} (is_in : IsIn all others to owner other k l x) where
  abbrev t : NumberMap
  t = reordered_numbers host all others to

  abbrev here : NumberMap
  here = numbers_of host all k x

  abbrev there : NumberMap
  there = numbers_of host others l x

  pub twice : IsTwice here t there
  twice = record {
    terminal = after_moved host re is_in (λ (y : Addition). y.rows.terminals) refl host.terminals;
    nonterminal = grouped_moved host re (length host.nonterminals) (length host.abstract_nonterminals)
        (λ (y : Addition). length y.rows.nonterminals) (λ (y : Addition). length y.rows.abstract_nonterminals) is_in refl refl;
    attribute = after_moved host re is_in (λ (y : Addition). length y.rows.attributes) refl (length host.attributes);
    production = grouped_moved host re (length host.productions) (length host.abstract_productions)
        (λ (y : Addition). length y.rows.productions) (λ (y : Addition). length y.rows.abstract_productions) is_in refl refl;
  }

  local_moved : (o : Option ℕ) (y : ℕ) → moved_local host all others to o (local_number host all k x o y) ≡ local_number host others l x o y
  local_moved None y = refl
  local_moved (Some p) y = after_moved host re is_in (λ (z : Addition). length (z.locals p)) refl (length (host_locals host p)) y

  pub locals_twice : (p y : ℕ) → t.local_in (here.production p) (here.local_in p y) ≡ there.local_in p y
  locals_twice p y =
      ap (λ o. moved_local host all others to o (here.local_in p y)) (host_number_kept host all k x (member_here is_in) p)
      ∙ local_moved (number_without host x p) y
