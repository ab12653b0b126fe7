-- What an insertion into a set of keys, and a look-up there, say of its list; and which keys are those of entries.
use Rattle.std.proofs.Common.{◌≡◌, ℕ, zero, suc, Bool, true, false, not, List, [], ◌∷◌, ◌++◌, Contains, Some, map, refl, sym, ◌∙◌, ap}
use Rattle.std.proofs.Common.{subst, inl, inr}
use Rattle.std.proofs.Common.{if◌then◌else◌, eqb-true}
use Rattle.std.specs.Prelude.{nat_eq, ◌↔◌, ◌&&◌, Option, option_map, slice_get}
use Rattle.std.proofs.lemmas.Option.{same_Some, slice_get-map}
use Rattle.std.specs.List.{list_any}
use Rattle.std.proofs.lemmas.Bool.{cases_Bool, true≢false}
use Rattle.std.proofs.lemmas.Cmp.{and_equiv, nat_eq_equiv, on_equiv}
use Rattle.std.proofs.lemmas.Map.Views.{Contains-from_any, list_any-from_Contains}
use Rattle.wb_lemmas.proofs.Members.{contains_at, place_of}
use Rattle.wb_grammar_theory.specs.declared.item.Item.{Item}
use Rattle.wb_recheck_theory.specs.declared.entry.Entry.{Entry}
use Rattle.wb_recheck_theory.specs.Entries.{IsListed}
use Rattle.wb_recheck_entries.specs.Keys.{Key, key_at, key_of}
use Rattle.wb_recheck_entries.specs.Inner.Inserted.{IsInserted}

-- equality of pairs, as it is tested
abbrev same_pair : ℕ × ℕ → ℕ × ℕ → Bool
same_pair x y = nat_eq x.0 y.0 && nat_eq x.1 y.1

-- and of keys
abbrev same_key : Key → Key → Bool
same_key x y = same_pair x.0 y.0 && same_pair x.1 y.1

and_both : (a b : Bool) → (a && b) ≡ true → (a ≡ true) × (b ≡ true)
and_both true b e = (refl, e)
and_both false b e = cc

equal_pair : (x y : ℕ × ℕ) → same_pair x y ≡ true → x ≡ y
equal_pair (a, b) (c, d) e =
    let (first, second) = and_both (nat_eq a c) (nat_eq b d) e in
    ap (λ z. (z, b)) (eqb-true a c first) ∙ ap (λ z. (c, z)) (eqb-true b d second)

equal : (x y : Key) → same_key x y ≡ true → x ≡ y
equal (a, b) (c, d) e =
    let (first, second) = and_both (same_pair a c) (same_pair b d) e in
    ap (λ z. (z, b)) (equal_pair a c first) ∙ ap (λ z. (c, z)) (equal_pair b d second)

listed_key : (keys : List Key) (key : Key) → Contains keys key → list_any (same_key key) keys ≡ true
listed_key keys key has = list_any-from_Contains
    (and_equiv (on_equiv (λ (t : Key). t.0) (and_equiv (on_equiv (λ (t : ℕ × ℕ). t.0) nat_eq_equiv) (on_equiv (λ (t : ℕ × ℕ). t.1)
    nat_eq_equiv)))
    (on_equiv (λ (t : Key). t.1) (and_equiv (on_equiv (λ (t : ℕ × ℕ). t.0) nat_eq_equiv) (on_equiv (λ (t : ℕ × ℕ). t.1) nat_eq_equiv))))
    key keys has

pub has_is : (keys : List Key) (key : Key) (r : Bool) → r ≡ list_any (same_key key) keys → (r ≡ true) ↔ Contains keys key
has_is keys key r e = (
  λ on. Contains-from_any equal key keys (sym e ∙ on),
  λ has. e ∙ listed_key keys key has,
)

pub inserted : (keys new : List Key) (key : Key) (r : Bool) → r ≡ not (list_any (same_key key) keys) →
    new ≡ (if list_any (same_key key) keys then keys else keys ++ key ∷ []) → IsInserted keys key new r
inserted keys new key r e f = elim (cases_Bool (list_any (same_key key) keys)) [
  | inl on ↦ subst (IsInserted keys key new) (sym (e ∙ ap not on)) (
    Contains-from_any equal key keys on,
    f ∙ ap (λ b. if b then keys else keys ++ key ∷ []) on,
  )
  | inr off ↦ subst (IsInserted keys key new) (sym (e ∙ ap not off)) (
    λ has. true≢false (sym (listed_key keys key has) ∙ off),
    f ∙ ap (λ b. if b then keys else keys ++ key ∷ []) off,
  )
]

-- a mapped list at a place
pub at_map : {X Y : Type 0} (f : X → Y) (xs : List X) (k : ℕ) (x : X) → slice_get xs k ≡ Some x → slice_get (map f xs) k ≡ Some (f x)
at_map f xs k x at = slice_get-map f xs k ∙ ap (option_map f) at

pub map_at : {X Y : Type 0} (f : X → Y) (xs : List X) (k : ℕ) (y : Y) → slice_get (map f xs) k ≡ Some y →
    (x : X) × (slice_get xs k ≡ Some x) × (f x ≡ y)
map_at f [] k y at = cc
map_at f (x ∷ xs) zero y at = (x, refl, same_Some (f x) y at)
map_at f (x ∷ xs) (suc k) y at = map_at f xs k y at

-- the key of an entry says its kernel, item and terminal
key_says : (k k' : ℕ) (item item' : Item) (t t' : ℕ) → key_at k item t ≡ key_at k' item' t' → (k ≡ k') × (item ≡ item') × (t ≡ t')
key_says k k' item item' t t' e = (
  ap (λ (z : Key). z.0.0) e,
  ap (λ (z : Key). item_of z.0.1 z.1.0) e,
  ap (λ (z : Key). z.1.1) e,
)
  where
    item_of : ℕ → ℕ → Item
    item_of p d = record { production = p; dot = d }

-- the keys of entries are those of what is listed
module _ (entries : List Entry) where
  pub listed_there : (k : ℕ) (item : Item) (t : ℕ) → Contains (map key_of entries) (key_at k item t) → IsListed entries k item t
  listed_there k item t has =
      let (n, at) = place_of (map key_of entries) (key_at k item t) has in
      let (e, there, is) = map_at key_of entries n (key_at k item t) at in
      let (same_k, same_item, same_t) = key_says e.kernel k e.item item e.terminal t is in
      (n, e.origin, there ∙ ap Some (entry_is e k item t same_k same_item same_t))
    where
      made : Option ℕ → ℕ → Item → ℕ → Entry
      made origin k item t = record { kernel = k; item = item; terminal = t; origin = origin }

      entry_is : (e : Entry) (k : ℕ) (item : Item) (t : ℕ) → e.kernel ≡ k → e.item ≡ item → e.terminal ≡ t → e ≡ made e.origin k item t
      entry_is e k item t same_k same_item same_t =
          ap (λ z. made e.origin z e.item e.terminal) same_k
          ∙ (ap (λ z. made e.origin k z e.terminal) same_item ∙ ap (λ z. made e.origin k item z) same_t)

  pub listed_back : (k : ℕ) (item : Item) (t : ℕ) → IsListed entries k item t → Contains (map key_of entries) (key_at k item t)
  listed_back k item t (n, origin, at) =
      contains_at (map key_of entries) (key_at k item t) n
      (at_map key_of entries n (record { kernel = k; item = item; terminal = t; origin = origin }) at)
