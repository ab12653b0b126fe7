-- Lists of places among the keys of a set.
use Rattle.std.proofs.Common.{◌≡◌, ◌<◌, ◌++◌, ◌⊎◌, ℕ, List, [], ◌∷◌, Option, Some, None, Vec, Global, Bool, true, false, map, length}
use Rattle.std.proofs.Common.{get_or, Contains, refl, ap, sym, ◌∙◌, arith, subst, inl, inr, if◌then◌else◌}
use Rattle.std.specs.Prelude.{nat_eq, IfSome, IsNone, is_some}
use Rattle.std.specs.Cmp.Lexicographic.{pointwise}
use Rattle.std.specs.List.{position, slice_get, list_any}
use Rattle.std.specs.Option.{option_map}
use Rattle.std.proofs.lemmas.Bool.{cases_Bool, true≢false}
use Rattle.std.proofs.lemmas.Bool.Decides.{Decides-eqb}
use Rattle.std.proofs.lemmas.List.{length-map, get_or-map, map-append}
use Rattle.std.proofs.lemmas.List.Folds.{list_any_at, list_any_none}
use Rattle.std.proofs.lemmas.List.Quantifiers.{position-Some}
use Rattle.std.proofs.lemmas.Option.{slice_get-map, slice_get-get_or, slice_get_within, get_or_from_slice_get}
use Rattle.std.proofs.lemmas.Slice.Eq.{slice_eq-Decides}
use Rattle.wb_base.specs.Different.{Differ}
use Rattle.wb_lemmas.proofs.Places.{at_push}

-- whether the key has these places
abbrev pub has_places : List ℕ → Vec ℕ Global → Bool
has_places places key = pointwise nat_eq places key.items

-- the places of keys
abbrev pub places_of : List (Vec ℕ Global) → List (List ℕ)
places_of keys = map (λ key. key.items) keys

pub key_found : (keys : List (Vec ℕ Global)) (places : List ℕ) (i : ℕ) → position (has_places places) keys ≡ Some i → slice_get
    (places_of keys) i ≡ Some places
key_found [] places i h = cc
key_found (k ∷ ks) places i h =
    let s = position-Some (has_places places) (k ∷ ks) i k h in
    slice_get-map (λ (key : Vec ℕ Global). key.items) (k ∷ ks) i
    ∙ ap (option_map (λ (key : Vec ℕ Global). key.items)) (slice_get-get_or (k ∷ ks) i k s.0)
    ∙ ap Some (sym ((slice_eq-Decides Decides-eqb places (get_or (k ∷ ks) i k).items (has_places places (get_or (k ∷ ks) i k)) refl).0 s.1))

pub key_missing : (keys : List (Vec ℕ Global)) (places : List ℕ) → list_any (has_places places) keys ≡ false → Contains
    (places_of keys) places → ⊥
key_missing [] places h there = absurd (omega (arith, there.1))
key_missing (k ∷ ks) places h there =
    let lt : there.0 < length (k ∷ ks) = subst (λ n. there.0 < n) (length-map (k ∷ ks) (λ (key : Vec ℕ Global). key.items)) there.1 in
    let at : places ≡ (get_or (k ∷ ks) there.0 k).items = sym there.2 ∙ get_or-map (λ (key : Vec ℕ Global). key.items)
    (k ∷ ks) there.0 k places lt in
    let found : list_any (has_places places) (k ∷ ks) ≡ true =
    list_any_at (has_places places) (k ∷ ks) there.0 k lt ((slice_eq-Decides Decides-eqb places (get_or (k ∷ ks) there.0 k).items
    (has_places places (get_or (k ∷ ks) there.0 k)) refl).1 at) in
    cc (found, h)

-- what a search for places finds
pub key_some : (keys : List (Vec ℕ Global)) (places : List ℕ) (o : Option ℕ) → o ≡ position (has_places places) keys → IfSome o
    (λ i. slice_get (places_of keys) i ≡ Some places)
key_some keys places None is = tt
key_some keys places (Some i) is = key_found keys places i (sym is)

-- and what it says where it finds nothing
pub key_none : (keys : List (Vec ℕ Global)) (places : List ℕ) (o : Option ℕ) → is_some o ≡ list_any (has_places places) keys → IsNone o
    → ¬ Contains (places_of keys) places
key_none keys places None is none = key_missing keys places (sym is)
key_none keys places (Some i) is none = absurd (true≢false none)

-- places that no key has are not found
pub key_absent : (keys : List (Vec ℕ Global)) (places : List ℕ) → (Contains (places_of keys) places → ⊥) → list_any
    (has_places places) keys ≡ false
key_absent keys places none = list_any_none (has_places places) keys (λ i d lt. elim (cases_Bool (has_places places (get_or keys i d))) [
  | inl on ↦
      let e : places ≡ (get_or keys i d).items = (slice_eq-Decides Decides-eqb places (get_or keys i d).items
      (has_places places (get_or keys i d)) refl).0 on in
      absurd (none (
        i,
        omega (arith, length-map keys (λ (key : Vec ℕ Global). key.items)),
        get_or-map
            (λ (key : Vec ℕ Global). key.items) keys i d places lt ∙ sym e,
      ))
  | inr off ↦ off
])

-- a key that isn't there is added last
pub key_added : (keys new : List (Vec ℕ Global)) (key : Vec ℕ Global) (places : List ℕ) → key.items ≡ places → list_any
    (has_places places) keys ≡ false → new ≡ (if list_any (has_places key.items) keys then keys else keys ++ key ∷ [])
    → places_of new ≡ places_of keys ++ places ∷ []
key_added keys new key places is missing e =
    let same : list_any (has_places key.items) keys ≡ false = subst (λ z. list_any (has_places z) keys ≡ false) (sym is) missing in
    let last : new ≡ keys ++ key ∷ [] = e ∙ ap (λ (b : Bool). if b then keys else keys ++ key ∷ []) same in
    ap places_of last ∙ map-append (λ (key : Vec ℕ Global). key.items) keys (key ∷ []) ∙ ap (λ z. places_of keys ++ z ∷ []) is

-- and keys stay different
pub different_more : (sets : List (List ℕ)) (places : List ℕ) → Differ sets → ¬ Contains sets places → Differ (sets ++ places ∷ [])
different_more sets places different new x i j first second = cases (at_push sets places x i first) (at_push sets places x j second) where
  contained : (i : ℕ) → slice_get sets i ≡ Some x → x ≡ places → Contains sets places
  contained i at e = (i, slice_get_within sets i x at, get_or_from_slice_get sets i places places (at ∙ ap Some e))

  cases : (slice_get sets i ≡ Some x) ⊎ ((i ≡ length sets) × (places ≡ x)) → (slice_get sets j ≡ Some x) ⊎
      ((j ≡ length sets) × (places ≡ x)) → i ≡ j
  cases (inl a) (inl b) = different x i j a b
  cases (inl a) (inr b) = absurd (new (contained i a (sym b.1)))
  cases (inr a) (inl b) = absurd (new (contained j b (sym a.1)))
  cases (inr a) (inr b) = a.0 ∙ sym b.0
