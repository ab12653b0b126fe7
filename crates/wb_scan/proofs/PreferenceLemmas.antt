-- What an index of pairs says of their list.
use Rattle.std.proofs.Common.{◌≡◌, ◌<◌, ◌≤◌, ◌+◌, ℕ, Bool, true, false, List, [], ◌∷◌, ◌++◌, Contains, length, get_or, take, refl, sym, ◌∙◌, ap, subst, inl, inr, not, eqb-true, take_all}
use Rattle.std.specs.Prelude.{nat_eq, ◌↔◌, ◌&&◌}
use Rattle.std.specs.List.{list_any}
use Rattle.std.specs.Bool.{MatchBool}
use Rattle.std.specs.List.Sorted.{IsPermutation}
use Rattle.std.proofs.lemmas.Cmp.{and_equiv, nat_eq_equiv, on_equiv}
use Rattle.std.proofs.lemmas.List.{take_more}
use Rattle.std.proofs.lemmas.Map.Views.{Contains-from_any, list_any-from_Contains}
use Rattle.std.proofs.lemmas.List.Sorted.{Contains-permutation, IsPermutation-sym}
use Rattle.wb_lemmas.proofs.Members.{contains_cases, contains_first, contains_later, contains_push, push_contains, push_contains_last}
use Rattle.wb_scan.specs.Inner.Preferred.{AreIndexed}

-- equality of pairs, as it is tested
abbrev same_pair : ℕ × ℕ → ℕ × ℕ → Bool
same_pair x y = nat_eq x.0 y.0 && nat_eq x.1 y.1

and_both : (a b : Bool) → (a && b) ≡ true → (a ≡ true) × (b ≡ true)
and_both true b e = (refl, e)
and_both false b e = cc

equal : (x y : ℕ × ℕ) → same_pair x y ≡ true → x ≡ y
equal (a, b) (c, d) e =
    let (first, second) = and_both (nat_eq a c) (nat_eq b d) e in
    ap (λ z. (z, b)) (eqb-true a c first) ∙ ap (λ z. (c, z)) (eqb-true b d second)

has_is : (keys : List (ℕ × ℕ)) (pair : ℕ × ℕ) (r : Bool) → r ≡ list_any (same_pair pair) keys → (r ≡ true) ↔ Contains keys pair
has_is keys pair r e = (
  λ on. Contains-from_any equal pair keys (sym e ∙ on),
  λ has. e ∙ list_any-from_Contains (and_equiv (on_equiv (λ t. t.0) nat_eq_equiv) (on_equiv (λ t. t.1) nat_eq_equiv)) pair keys has,
)

-- what an index that has some pairs answers
pub indexed_has : (pairs keys : List (ℕ × ℕ)) (pair : ℕ × ℕ) (r : Bool) → AreIndexed pairs keys → (keys ≡ [] → ⊥) →
    r ≡ list_any (same_pair pair) keys → (r ≡ true) ↔ Contains pairs pair
indexed_has pairs keys pair r (inl none) some e = absurd (some none)
indexed_has pairs keys pair r (inr same) some e =
    let has = has_is keys pair r e in (λ on. (same pair).0 (has.0 on), λ there. has.1 ((same pair).1 there))

-- the index has the first i pairs
abbrev pub AreIndexedTo : List (ℕ × ℕ) → ℕ → List (ℕ × ℕ) → Type 0
AreIndexedTo pairs i keys = (pair : ℕ × ℕ) → Contains keys pair ↔ Contains (take i pairs) pair

is_there : (b : Bool) → false ≡ not b → b ≡ true
is_there true said = refl
is_there false said = cc

pub indexed_more : (pairs keys new : List (ℕ × ℕ)) (i : ℕ) (x : ℕ × ℕ) (added : Bool) → i < length pairs → x ≡ get_or pairs i (0, 0)
    → added ≡ not (list_any (same_pair x) keys) → MatchBool added (IsPermutation (x ∷ keys) new) (new ≡ keys) → AreIndexedTo pairs i keys
    → AreIndexedTo pairs (i + 1) new
indexed_more pairs keys new i x false lt x_is said put before pair =
    let more : take (i + 1) pairs ≡ take i pairs ++ x ∷ [] =
    take_more pairs i (0, 0) lt ∙ ap (λ z. take i pairs ++ z ∷ []) (sym x_is) in
    let on : list_any (same_pair x) keys ≡ true = is_there (list_any (same_pair x) keys) said in
    subst (λ z. Contains new pair ↔ Contains z pair) (sym more) (subst (λ z. Contains z pair ↔ Contains (take i pairs ++ x ∷ []) pair) (sym put) (
      (λ has. push_contains (take i pairs) x pair ((before pair).0 has)),
      (λ has. elim (contains_push (take i pairs) x pair has) [
        | inl there ↦ (before pair).1 there
        | inr is ↦ subst (Contains keys) is (Contains-from_any equal x keys on)
      ]),
    ))
indexed_more pairs keys new i x true lt x_is said put before pair =
    let more : take (i + 1) pairs ≡ take i pairs ++ x ∷ [] =
    take_more pairs i (0, 0) lt ∙ ap (λ z. take i pairs ++ z ∷ []) (sym x_is) in
    subst (λ z. Contains new pair ↔ Contains z pair) (sym more) (
      (λ has. elim (contains_cases x pair keys (Contains-permutation new (x ∷ keys) pair (IsPermutation-sym (x ∷ keys) new put) has)) [
        | inl is ↦ subst (Contains (take i pairs ++ x ∷ [])) is (push_contains_last (take i pairs) x)
        | inr there ↦ push_contains (take i pairs) x pair ((before pair).0 there)
      ]),
      (λ has. Contains-permutation (x ∷ keys) new pair put (elim (contains_push (take i pairs) x pair has) [
        | inl there ↦ contains_later x pair keys ((before pair).1 there)
        | inr is ↦ subst (Contains (x ∷ keys)) is (contains_first x keys)
      ])),
    )

pub indexed_all : (pairs keys : List (ℕ × ℕ)) (i : ℕ) → length pairs ≤ i → AreIndexedTo pairs i keys → AreIndexed pairs keys
indexed_all pairs keys i le all = inr (λ pair. subst (λ z. Contains keys pair ↔ Contains z pair) (take_all i pairs le) (all pair))
