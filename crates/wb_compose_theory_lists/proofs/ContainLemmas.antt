-- What lists of a host and of all extensions have of one owner: what is there where the owner is alone with the host.
use Rattle.std.proofs.Common.{◌≡◌, ◌∙◌, ◌++◌, ◌∷◌, [], ℕ, suc, List, Some, Contains, map, option_map, slice_get, sym, ap, subst}
use Rattle.std.proofs.Common.{inl, inr, arith}
use Rattle.std.proofs.lemmas.Option.{same_Some}
use Rattle.wb_lemmas.proofs.Members.{nothing_in, contains_at, place_of, contains_append, append_contains_left, append_contains_right}
use Rattle.wb_syntax_resolved.specs.Owners.{Sees}
use Rattle.wb_compose_theory_attributes.proofs.SeenLemmas.{mapped}
use Rattle.wb_compose_theory_attributes.proofs.VertexLemmas.{contains_map, map_contains}
use Rattle.wb_compose_theory_lists.specs.Additions.{Addition, nothing}
use Rattle.wb_compose_theory_lists.specs.Joined.{joined, numbered}
use Rattle.wb_compose_theory_lists.proofs.EachLemmas.{IsView, of_host, of_own, numbered_first}
use Rattle.wb_compose_theory_lists.proofs.JoinedLemmas.{joined_at, joined_from}

joined_contains : {X : Type 0} (xss : List (List X)) (k : ℕ) (xs : List X) (x : X) → slice_get xss k ≡ Some xs → Contains xs x
    → Contains (joined xss) x
joined_contains xss k xs x at has =
    let (i, there) = place_of xs x has in contains_at (joined xss) x _ (joined_at xss k i xs x at there)

module _ {X : Type 0} (all : List Addition) (o k : ℕ) (x : Addition) (view : IsView all o k x) (owner_of : X → ℕ) (rows : List X)
    (rows_of : Addition → List X) (empty : rows_of nothing ≡ []) (here e g here_own : X → X) (own : ℕ → Addition → X → X)
    (host_is : (r : X) → g (here r) ≡ e r) (own_is : o ≡ suc k → (r : X) → g (here_own r) ≡ own k x r)
    (owned : (l : ℕ) (y : Addition) → slice_get all l ≡ Some y → (r : X) → Contains (rows_of y) r → owner_of (own l y r) ≡ suc l) where
  abbrev each : List (List X)
  each = numbered (λ l y. map (own l y) (rows_of y)) 0 all

  abbrev union : List X
  union = map e rows ++ joined each

  abbrev one : List X
  one = map here rows ++ joined (map here_own (rows_of x) ∷ [])

  each_at : (l : ℕ) (y : Addition) → slice_get all l ≡ Some y → slice_get each l ≡ Some (map (own l y) (rows_of y))
  each_at l y at = numbered_first (λ l y. map (own l y) (rows_of y)) all l ∙ ap (option_map (λ y. map (own l y) (rows_of y))) at

  own_there : (r : X) → Contains (rows_of x) r → IsView all o k x → Contains union (g (here_own r))
  own_there r has (of_host is none) =
      let nothing_there : rows_of x ≡ [] = ap rows_of none ∙ empty in
      absurd (nothing_in r (subst (λ z. Contains z r) nothing_there has))
  own_there r has (of_own is at) =
      let inside = joined_contains each k (map (own k x) (rows_of x)) (own k x r) (each_at k x at) (map_contains (own k x)
      (rows_of x) r has) in
      append_contains_right (map e rows) (joined each) (g (here_own r)) (subst (Contains (joined each)) (sym (own_is is r)) inside)

  pub contains_seen : (r : X) → Contains one r → Contains union (g r)
  contains_seen r has = elim (contains_append (map here rows) (joined (map here_own (rows_of x) ∷ [])) r has) [
    | inl first ↦
        let (from, is, there) = contains_map here rows r first in
        let moved = map_contains e rows from there in
        append_contains_left (map e rows) (joined each) (g r) (subst (Contains (map e rows)) (sym (ap g is ∙ host_is from)) moved)
    | inr second ↦ elim (contains_append (map here_own (rows_of x)) [] r second) [
      | inl mine ↦
          let (from, is, there) = contains_map here_own (rows_of x) r mine in
          subst (λ z. Contains union (g z)) (sym is) (own_there from there view)
      | inr none ↦ absurd (nothing_in r none)
    ]
  ]

  -- where it comes from
  abbrev ComesFrom : X → Type 0
  ComesFrom r = (from : X) × Contains one from × (r ≡ g from)

  own_from : (r : X) (l : ℕ) (y : Addition) → slice_get all l ≡ Some y → (from : X) → Contains (rows_of y) from → r ≡ own l y from
      → Sees o (owner_of r) → IsView all o k x → ComesFrom r
  own_from r l y at from has is (inl host) view =
      let owner = ap owner_of is ∙ owned l y at from has in absurd (omega (arith, host, owner))
  own_from r l y at from has is (inr mine) (of_host zero_is none) =
      let owner = ap owner_of is ∙ owned l y at from has in absurd (omega (arith, zero_is, mine, owner))
  own_from r l y at from has is (inr mine) (of_own same at_k) =
      let owner = ap owner_of is ∙ owned l y at from has in
      let l_is : l ≡ k = omega (arith, same, mine, owner) in
      let there = subst (λ z. slice_get all z ≡ Some y) l_is at in
      let y_is : y ≡ x = same_Some y x (sym there ∙ at_k) in
      let moved : r ≡ own k x from = is ∙ (ap (λ z. own z y from) l_is ∙ ap (λ z. own k z from) y_is) in
      let inside = map_contains here_own (rows_of x) from (subst (λ z. Contains (rows_of z) from) y_is has) in (
        here_own from,
        append_contains_right (map here rows) (joined (map here_own (rows_of x) ∷ [])) (here_own from)
            (append_contains_left (map here_own (rows_of x)) [] (here_own from) inside),
        moved ∙ sym (own_is same from),
      )

  pub contains_from : (r : X) → Contains union r → Sees o (owner_of r) → ComesFrom r
  contains_from r has sees = elim (contains_append (map e rows) (joined each) r has) [
    | inl first ↦
        let (from, is, there) = contains_map e rows r first in (
          here from,
          append_contains_left (map here rows) (joined (map here_own (rows_of x) ∷ [])) (here from) (map_contains here rows from there),
          is ∙ sym (host_is from),
        )
    | inr second ↦
        let (number, at) = place_of (joined each) r second in
        let inside = joined_from each number r at in
        let (y, at_y, same) = mapped (λ y. map (own inside.k y) (rows_of y)) (slice_get all inside.k) inside.xs
        (sym (numbered_first (λ l y. map (own l y) (rows_of y)) all inside.k) ∙ inside.at) in
        let listed = contains_at (map (own inside.k y) (rows_of y)) r inside.i
        (subst (λ z. slice_get z inside.i ≡ Some r) (sym same) inside.has) in
        let (from, is, there) = contains_map (own inside.k y) (rows_of y) r listed in
        own_from r inside.k y at_y from there is sees view
  ]
