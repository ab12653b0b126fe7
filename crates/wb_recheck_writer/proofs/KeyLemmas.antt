-- Entries by their keys.
use Rattle.std.proofs.Common.{◌≡◌, ℕ, Bool, true, false, zero, suc, List, [], ◌∷◌, ◌++◌, map, Some, Contains, refl, sym, ◌∙◌, ap, subst}
use Rattle.std.proofs.Common.{inl, inr}
use Rattle.std.proofs.Common.{if◌then◌else◌, eqb-true}
use Rattle.std.specs.Prelude.{◌↔◌, ◌&&◌, nat_eq, slice_get, Option}
use Rattle.std.specs.List.{list_any}
use Rattle.std.proofs.lemmas.Bool.{true≢false}
use Rattle.std.proofs.lemmas.Cmp.{and_equiv, nat_eq_equiv, on_equiv}
use Rattle.std.proofs.lemmas.Option.{same_Some}
use Rattle.std.proofs.lemmas.Map.Views.{Contains-from_any, list_any-from_Contains}
use Rattle.wb_lemmas.proofs.Members.{contains_at, place_of}
use Rattle.wb_grammar_theory.specs.declared.item.Item.{Item}
use Rattle.wb_recheck_theory.specs.declared.entry.Entry.{Entry}
use Rattle.wb_recheck_theory.specs.Entries.{IsListed}
use Rattle.wb_recheck_writer.specs.Inner.Reached.{Adds, key_of}

abbrev pub Key : Type 0
Key = ℕ × ℕ × ℕ × ℕ

-- equality of keys, as it is tested
abbrev pub same_key : Key → Key → Bool
same_key x y = nat_eq x.0 y.0 && (nat_eq x.1 y.1 && (nat_eq x.2 y.2 && nat_eq x.3 y.3))

and_both : (a b : Bool) → (a && b) ≡ true → (a ≡ true) × (b ≡ true)
and_both true b e = (refl, e)
and_both false b e = cc

key_equal : (x y : Key) → same_key x y ≡ true → x ≡ y
key_equal (a, b, c, d) (a', b', c', d') e =
    let (first, more) = and_both (nat_eq a a') (nat_eq b b' && (nat_eq c c' && nat_eq d d')) e in
    let (second, rest) = and_both (nat_eq b b') (nat_eq c c' && nat_eq d d') more in
    let (third, fourth) = and_both (nat_eq c c') (nat_eq d d') rest in
    ap (λ z. (z, b, c, d)) (eqb-true a a' first) ∙ (ap (λ z. (a', z, c, d)) (eqb-true b b' second)
    ∙ (ap (λ z. (a', b', z, d)) (eqb-true c c' third) ∙ ap (λ z. (a', b', c', z)) (eqb-true d d' fourth)))

has_key : (keys : List Key) (key : Key) → (list_any (same_key key) keys ≡ true) ↔ Contains keys key
has_key keys key = (
  λ on. Contains-from_any key_equal key keys on,
  λ has. list_any-from_Contains (and_equiv (on_equiv (λ t. t.0) nat_eq_equiv) (and_equiv (on_equiv (λ t. t.1) nat_eq_equiv)
      (and_equiv (on_equiv (λ t. t.2) nat_eq_equiv) (on_equiv (λ t. t.3) nat_eq_equiv)))) key keys has,
)

-- the entry at the place of a key
key_there : (entries : List Entry) (i : ℕ) (key : Key) → slice_get (map key_of entries) i ≡ Some key →
    (e : Entry) × (slice_get entries i ≡ Some e) × (key_of e ≡ key)
key_there [] i key at = cc
key_there (e ∷ entries) zero key at = (e, refl, same_Some (key_of e) key at)
key_there (e ∷ entries) (suc i) key at = key_there entries i key at

-- and the key at the place of an entry
key_back : (entries : List Entry) (i : ℕ) (e : Entry) → slice_get entries i ≡ Some e → slice_get (map key_of entries) i ≡ Some (key_of e)
key_back [] i e at = cc
key_back (f ∷ entries) zero e at = ap (λ z. Some (key_of z)) (same_Some f e at)
key_back (f ∷ entries) (suc i) e at = key_back entries i e at

abbrev entry_of : ℕ → Item → ℕ → Option ℕ → Entry
entry_of k item t origin = record { kernel = k; item = item; terminal = t; origin = origin }

-- a key is there where its lookahead is listed
listed_key : (entries : List Entry) (e : Entry) → Contains (map key_of entries) (key_of e) ↔ IsListed entries e.kernel e.item e.terminal
listed_key entries e = (there, back) where
  found : (i : ℕ) (f : Entry) → slice_get entries i ≡ Some f → key_of f ≡ key_of e → IsListed entries e.kernel e.item e.terminal
  found i f at same =
      (i, f.origin, at ∙ ap (λ (z : Key). Some (entry_of z.0 (record { production = z.1; dot = z.2 }) z.3 f.origin)) same)

  there : Contains (map key_of entries) (key_of e) → IsListed entries e.kernel e.item e.terminal
  there has =
      let (i, at) = place_of (map key_of entries) (key_of e) has in
      let (f, at_f, same) = key_there entries i (key_of e) at in
      found i f at_f same

  back : IsListed entries e.kernel e.item e.terminal → Contains (map key_of entries) (key_of e)
  back (i, origin, at) =
      contains_at (map key_of entries) (key_of e) i (key_back entries i (entry_of e.kernel e.item e.terminal origin) at)

map-push : (entries : List Entry) (e : Entry) → map key_of (entries ++ e ∷ []) ≡ map key_of entries ++ key_of e ∷ []
map-push [] e = refl
map-push (f ∷ entries) e = ap (λ z. key_of f ∷ z) (map-push entries e)

abbrev pub inserted : List Key → Key → List Key
inserted keys key = if list_any (same_key key) keys then keys else keys ++ key ∷ []

-- what an insertion of a new key leaves, once its entry is there
pub key_added : (entries : List Entry) (keys new : List Key) (e : Entry) → keys ≡ map key_of entries →
    list_any (same_key (key_of e)) keys ≡ false → new ≡ inserted keys (key_of e) → new ≡ map key_of (entries ++ e ∷ [])
key_added entries keys new e are off is =
    is ∙ (ap (λ b. if b then keys else keys ++ key_of e ∷ []) off ∙ (ap (λ z. z ++ key_of e ∷ []) are ∙ sym (map-push entries e)))

-- what one of a key that is there leaves
pub key_kept : (entries : List Entry) (keys new : List Key) (e : Entry) → keys ≡ map key_of entries →
    list_any (same_key (key_of e)) keys ≡ true → new ≡ inserted keys (key_of e) → new ≡ map key_of entries
key_kept entries keys new e are on is = is ∙ (ap (λ b. if b then keys else keys ++ key_of e ∷ []) on ∙ are)

pub adds_new : (entries : List Entry) (keys : List Key) (e : Entry) → keys ≡ map key_of entries →
    list_any (same_key (key_of e)) keys ≡ false → Adds entries e (entries ++ e ∷ [])
adds_new entries keys e are off = inr (
  λ listed. true≢false (sym (subst (λ ks. list_any (same_key (key_of e)) ks ≡ true) (sym are)
      ((has_key (map key_of entries) (key_of e)).1 ((listed_key entries e).1 listed))) ∙ off),
  refl,
)

pub adds_none : (entries : List Entry) (keys : List Key) (e : Entry) → keys ≡ map key_of entries →
    list_any (same_key (key_of e)) keys ≡ true → Adds entries e entries
adds_none entries keys e are on = inl (
  (listed_key entries e).0 (subst (λ ks. Contains ks (key_of e)) are ((has_key keys (key_of e)).0 on)),
  refl,
)
