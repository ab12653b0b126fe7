-- The numbers that a group takes, as its chains are followed.
use Rattle.std.proofs.Common.{◌≡◌, ℕ, ◌+◌, ◌-◌, ◌<◌, ◌≤◌, ◌⊎◌, List, [], length, get_or, Some, refl, sym, ◌∙◌, ap, subst, arith, inl, inr}
use Rattle.std.specs.Prelude.{Contains, slice_get, slice_index, ◌↔◌}
use Rattle.std.proofs.lemmas.Bool.{cases_eq, cases_lt}
use Rattle.std.proofs.lemmas.Option.{slice_get_within, slice_get-get_or}
use Rattle.wb_lemmas.proofs.Places.{at_once, default_at}
use Rattle.wb_lemmas.proofs.Members.{nothing_in}
use Rattle.wb_graph.specs.Graphs.{Edge}
use Rattle.wb_digraph.specs.Inner.Chains.{AreChained, IsLast}
use Rattle.wb_digraph.specs.Inner.Spreading.{AreParts, ComesFrom, IsFirstAt, IsFoundAt, LeavesGroup}

-- nothing comes from after the last entry of a key
pub comes_start : (Key At : ℕ → ℕ → Type 0) (k limit place n : ℕ) → IsLast Key k limit place → ((j n : ℕ) → At j n → Key j k × (j < limit)) →
    ComesFrom At place n → ⊥
comes_start Key At k limit place n last keyed (j, from, at) =
    let (key, lt) = keyed j n at in last.others j from lt key

-- what comes from one entry before
pub comes_more : (Key At : ℕ → ℕ → Type 0) (k place place' j n : ℕ) → place ≡ j + 1 → IsLast Key k j place' →
    ((j n : ℕ) → At j n → Key j k) → ComesFrom At place' n ↔ (ComesFrom At place n ⊎ At j n)
comes_more Key At k place place' j n is last keyed = (
  λ (i, from, at). elim (cases_eq i j) [
    | inl same ↦ inr (subst (λ z. At z n) same at)
    | inr ne ↦ elim (cases_lt i j) [
      | inl lt ↦ absurd (last.others i from lt (keyed i n at))
      | inr past ↦ inl (i, omega (arith, is, ne, past), at)
    ]
  ],
  λ either. elim either [
    | inl (i, from, at) ↦ (i, (let w = last.within in omega (arith, is, w, from)), at)
    | inr at ↦ (j, last.within, at)
  ],
)

-- numbers so far, as one entry more is taken
pub taken_more : (Key At : ℕ → ℕ → Type 0) (k place place' j : ℕ) (first old new : List ℕ) → place ≡ j + 1 → IsLast Key k j place' →
    ((j n : ℕ) → At j n → Key j k) → ((n : ℕ) → Contains new n ↔ (Contains old n ⊎ At j n)) →
    ((n : ℕ) → Contains old n ↔ (Contains first n ⊎ ComesFrom At place n)) →
    (n : ℕ) → Contains new n ↔ (Contains first n ⊎ ComesFrom At place' n)
taken_more Key At k place place' j first old new is last keyed adds h n =
    let more = comes_more Key At k place place' j n is last keyed in (
      λ has. elim ((adds n).0 has) [
        | inl before ↦ elim ((h n).0 before) [
          | inl one ↦ inl one
          | inr two ↦ inr (more.1 (inl two))
        ]
        | inr at ↦ inr (more.1 (inr at))
      ],
      λ either. elim either [
        | inl one ↦ (adds n).1 (inl ((h n).1 (inl one)))
        | inr two ↦ elim (more.0 two) [
          | inl before ↦ (adds n).1 (inl ((h n).1 (inr before)))
          | inr at ↦ (adds n).1 (inr at)
        ]
      ],
    )

-- before any entry is taken
pub taken_start : (Key At : ℕ → ℕ → Type 0) (k limit place : ℕ) (first : List ℕ) → IsLast Key k limit place →
    ((j n : ℕ) → At j n → Key j k × (j < limit)) → (n : ℕ) → Contains first n ↔ (Contains first n ⊎ ComesFrom At place n)
taken_start Key At k limit place first last keyed n = (
  λ has. inl has,
  λ either. elim either [ inl one ↦ one | inr two ↦ absurd (comes_start Key At k limit place n last keyed two) ],
)

-- the first number of a vertex that was read
pub first_at : (firsts groups : List ℕ) (k j f : ℕ) (old new : List ℕ) → slice_get groups j ≡ Some k → slice_get firsts j ≡ Some f →
    ((n : ℕ) → Contains new n ↔ (Contains old n ⊎ (n ≡ f))) → (n : ℕ) → Contains new n ↔ (Contains old n ⊎ IsFirstAt firsts groups k j n)
first_at firsts groups k j f old new in_group at adds n = (
  λ has. elim ((adds n).0 has) [
    | inl before ↦ inl before
    | inr same ↦ inr (in_group, at ∙ ap Some (sym same))
  ],
  λ either. elim either [
    | inl before ↦ (adds n).1 (inl before)
    | inr (_, at') ↦ (adds n).1 (inr (at_once firsts j n f at' at))
  ],
)

-- the number of the group to which an edge leads
pub found_at : (edges : List Edge) (groups found : List ℕ) (k j i f : ℕ) (e : Edge) (old new : List ℕ) → slice_get edges j ≡ Some e →
    slice_get groups e.0 ≡ Some k → slice_get groups e.1 ≡ Some i → i < k → slice_get found i ≡ Some f →
    ((n : ℕ) → Contains new n ↔ (Contains old n ⊎ (n ≡ f))) →
    (n : ℕ) → Contains new n ↔ (Contains old n ⊎ IsFoundAt edges groups found k j n)
found_at edges groups found k j i f e old new at from to lt is adds n = (
  λ has. elim ((adds n).0 has) [
    | inl before ↦ inl before
    | inr same ↦ inr (e, i, at, from, to, lt, is ∙ ap Some (sym same))
  ],
  λ either. elim either [
    | inl before ↦ (adds n).1 (inl before)
    | inr (e', i', at', _, to', _, is') ↦
        let same : e' ≡ e = at_once edges j e' e at' at in
        let group : i' ≡ i = at_once groups e.1 i' i (subst (λ (z : Edge). slice_get groups z.1 ≡ Some i') same to') to in
        (adds n).1 (inr (at_once found i n f (subst (λ z. slice_get found z ≡ Some n) group is') is))
  ],
)

-- none where it leads to the group itself
pub found_none : (edges : List Edge) (groups found : List ℕ) (k j i : ℕ) (e : Edge) (old : List ℕ) → slice_get edges j ≡ Some e →
    slice_get groups e.1 ≡ Some i → k ≤ i → (n : ℕ) → Contains old n ↔ (Contains old n ⊎ IsFoundAt edges groups found k j n)
found_none edges groups found k j i e old at to past n = (
  λ has. inl has,
  λ either. elim either [
    | inl before ↦ before
    | inr (e', i', at', _, to', lt, _) ↦
        let same : e' ≡ e = at_once edges j e' e at' at in
        let group : i' ≡ i = at_once groups e.1 i' i (subst (λ (z : Edge). slice_get groups z.1 ≡ Some i') same to') to in
        absurd (omega (arith, group, lt, past))
  ],
)

-- both parts, from no numbers
pub are_parts : (edges : List Edge) (groups firsts found : List ℕ) (k : ℕ) (none mid new : List ℕ) → none ≡ [] →
    ((n : ℕ) → Contains mid n ↔ (Contains none n ⊎ ComesFrom (IsFirstAt firsts groups k) 0 n)) →
    ((n : ℕ) → Contains new n ↔ (Contains mid n ⊎ ComesFrom (IsFoundAt edges groups found k) 0 n)) → AreParts edges groups firsts found k new
are_parts edges groups firsts found k none mid new is one two n = (
  λ has. elim ((two n).0 has) [
    | inl before ↦ elim ((one n).0 before) [
      | inl nothing ↦ absurd (nothing_in n (subst (λ z. Contains z n) is nothing))
      | inr first ↦ inl first
    ]
    | inr later ↦ inr later
  ],
  λ either. elim either [
    | inl first ↦ (two n).1 (inl ((one n).1 (inr first)))
    | inr later ↦ (two n).1 (inr later)
  ],
)

-- what was read from a list at a place
pub read_is : (xs : List ℕ) (i r : ℕ) → i < length xs → r ≡ get_or xs i r → slice_index xs i ≡ r
read_is xs i r lt is = default_at xs i 0 r (slice_get-get_or xs i r lt ∙ ap Some (sym is))

-- where a chain goes on from an entry
pub chain_before : (Key : ℕ → ℕ → Type 0) (lasts earlier : List ℕ) (k place r : ℕ) → AreChained Key lasts earlier → 0 < place →
    place ≤ length earlier → ((j : ℕ) → place ≡ j + 1 → Key j k) → r ≡ get_or earlier (place - 1) r → IsLast Key k (place - 1) r
chain_before Key lasts earlier k place r h some within key is =
    let e : place ≡ (place - 1) + 1 = omega (arith, some) in
    let lt : place - 1 < length earlier = omega (arith, some, within) in
    subst (IsLast Key k (place - 1)) (read_is earlier (place - 1) r lt is) (h.before (place - 1) k lt (key (place - 1) e))

-- and where it begins
pub chain_last : (Key : ℕ → ℕ → Type 0) (lasts earlier : List ℕ) (k r : ℕ) → AreChained Key lasts earlier → k < length lasts →
    r ≡ get_or lasts k r → IsLast Key k (length earlier) r
chain_last Key lasts earlier k r h lt is = subst (IsLast Key k (length earlier)) (read_is lasts k r lt is) (h.last k)

-- all entries were taken
pub taken_all : (At : ℕ → ℕ → Type 0) (place : ℕ) (first new : List ℕ) → place ≤ 0 →
    ((n : ℕ) → Contains new n ↔ (Contains first n ⊎ ComesFrom At place n)) →
    (n : ℕ) → Contains new n ↔ (Contains first n ⊎ ComesFrom At 0 n)
taken_all At place first new zero h n = (
  λ has. elim ((h n).0 has) [ inl one ↦ inl one | inr (j, from, at) ↦ inr (j, omega arith, at) ],
  λ either. elim either [ inl one ↦ (h n).1 (inl one) | inr (j, from, at) ↦ (h n).1 (inr (j, omega (arith, zero), at)) ],
)

-- the ends of an edge that leaves a group
pub target_at : (edges : List Edge) (groups : List ℕ) (j k i : ℕ) (d : Edge) → LeavesGroup edges groups j k →
    slice_get groups (get_or edges j d).1 ≡ Some i →
    (e : Edge) × (slice_get edges j ≡ Some e) × (slice_get groups e.0 ≡ Some k) × (slice_get groups e.1 ≡ Some i)
target_at edges groups j k i d (e, at, from) to =
    (e, at, from, subst (λ (z : Edge). slice_get groups z.1 ≡ Some i) (default_at edges j d e at) to)
