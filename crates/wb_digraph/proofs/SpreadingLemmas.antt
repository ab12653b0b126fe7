-- One set for each group of vertices that lead to each other, where edges lead to groups of no greater number.
use Rattle.std.proofs.Common.{◌≡◌, ℕ, ◌+◌, ◌<◌, ◌≤◌, ◌++◌, ◌∷◌, [], Bool, List, Some, length, get_or, refl, sym, ◌∙◌, ap, subst, inl, inr, arith}
use Rattle.std.specs.Prelude.{All, Contains, slice_get, ◌↔◌}
use Rattle.std.proofs.lemmas.Bool.{cases_eq, cases_lt}
use Rattle.std.proofs.lemmas.Option.{slice_get_within, slice_get-get_or}
use Rattle.std.proofs.lemmas.List.Elements.{All-contains, All-push, Contains-get_or}
use Rattle.wb_lemmas.proofs.Places.{at_once, at_push, at_within}
use Rattle.wb_lemmas.proofs.Members.{contains_at, place_of}
use Rattle.wb_termset.specs.Sets.{IsMember}
use Rattle.wb_graph.specs.Graphs.{Edge, IsEdge, IsEdgeBelow, Walk}
use Rattle.wb_graph.specs.Graphs.Walk.{stay, step}
use Rattle.wb_graph.specs.Components.{ComponentsView, AreComponents}
use Rattle.wb_digraph.specs.Inner.Pools.{AreNumbers, Extends, IsUnionOf, set_at}
use Rattle.wb_digraph.specs.Inner.Spreading.{AreFound, AreParts, AreSpread, HasAt, Spreads, here, there}
use Rattle.wb_digraph.proofs.PoolLemmas.{extended_at, extended_len, extends_then, numbers_kept}

-- what comes to the end of a walk comes to its beginning
pub spreads_along : {Direct : ℕ → ℕ → Type 0} {edges : List Edge} {u v t : ℕ} → Walk edges u v → Spreads Direct (IsEdge edges) v t →
    Spreads Direct (IsEdge edges) u t
spreads_along {Direct} {edges} {t = t} (stay v is) s = subst (λ z. Spreads Direct (IsEdge edges) z t) (sym is) s
spreads_along (step v w walk edge) s = spreads_along walk (there w edge s)

-- the same by other conditions
pub spreads_map : {P Q R S : ℕ → ℕ → Type 0} → ((u t : ℕ) → P u t → Q u t) → ((u v : ℕ) → R u v → S u v) → {u t : ℕ} → Spreads P R u t →
    Spreads Q S u t
spreads_map f g {u} {t} (here d) = here (f u t d)
spreads_map f g {u} {t} (there v e s) = there v (g u v e) (spreads_map f g s)

module _ (edges : List Edge) (firsts : List ℕ) (components : ComponentsView) (below : All (IsEdgeBelow (length firsts)) edges)
    (c : AreComponents (length firsts) edges components) (first : List (List Bool)) where
  abbrev Comes : ℕ → ℕ → Type 0
  Comes = Spreads (HasAt first firsts) (IsEdge edges)

  -- the set of a group is what comes to its vertices
  pub group_exact : (old new : List (List Bool)) (found parts : List ℕ) (k whole : ℕ) → Extends first old → Extends old new →
      AreNumbers first firsts → length found ≡ k → AreParts edges components.numbers firsts found k parts → IsUnionOf new parts whole →
      AreFound edges firsts components.numbers first old found → (u t : ℕ) → slice_get components.numbers u ≡ Some k →
      IsMember (set_at new whole) t ↔ Comes u t
  group_exact old new found parts k whole more more' within len are union h u t at = (
    λ has. let (n, of, member) = (union.members t).0 has in elim ((are n).0 of) [
      | inl (v, _, (at_v, at_n)) ↦
          let lt : n < length first = All-contains (λ n. n < length first) firsts n within (contains_at firsts n v at_n) in
          let in_first : IsMember (set_at first n) t =
          subst (λ z. IsMember z t) (extended_at first new n (extends_then first old new more more') lt) member in
          spreads_along ((c.exact u v k k at at_v).0 refl).0 (here (n, at_n, in_first))
      | inr (j, _, (e, i, at_e, at_from, at_to, lt, at_n)) ↦
          let below_old : n < length old = All-contains (λ n. n < length old) found n h.below (contains_at found n i at_n) in
          let in_old : IsMember (set_at old n) t = subst (λ z. IsMember z t) (extended_at old new n more' below_old) member in
          let comes : Comes e.1 t = (h.exact e.1 i n t at_to at_n).0 in_old in
          spreads_along ((c.exact u e.0 k k at at_from).0 refl).0
          (there e.1 (contains_at edges e j at_e) comes)
    ],
    λ comes. held u at comes,
  )
    where
      held : (u' : ℕ) → slice_get components.numbers u' ≡ Some k → Spreads (HasAt first firsts) (IsEdge edges) u' t →
          IsMember (set_at new whole) t
      held u' at' (here (n, at_n, member)) =
          let lt : n < length first = All-contains (λ n. n < length first) firsts n within (contains_at firsts n u' at_n) in
          (union.members t).1 (
            n,
            (are n).1 (inl (u', omega arith, (at', at_n))),
            subst (λ z. IsMember z t) (sym (extended_at first new n (extends_then first old new more more') lt)) member,
          )
      held u' at' (there w edge s) =
          let (j, at_e) = place_of edges (u', w) edge in
          let w_lt : w < length firsts = (All-contains (IsEdgeBelow (length firsts)) edges (u', w) below edge).1 in
          let (i, at_w) = at_within components.numbers w (let e = c.len in omega (arith, e, w_lt)) in
          let le : i ≤ k = c.falls u' w k i edge at' at_w in
          elim (cases_eq i k) [
            | inl same ↦ held w (at_w ∙ ap Some same) s
            | inr ne ↦
                let lt : i < k = omega (arith, le, ne) in
                let (n, at_n) = at_within found i (omega (arith, len, lt)) in
                let below_old : n < length old = All-contains (λ n. n < length old) found n h.below (contains_at found n i at_n) in
                (union.members t).1 (
                  n,
                  (are n).1 (inr (j, omega arith, ((u', w), i, at_e, at', at_w, lt, at_n))),
                  subst (λ z. IsMember z t) (sym (extended_at old new n more' below_old)) ((h.exact w i n t at_w at_n).1 s),
                )
          ]

  -- no group
  pub found_start : AreFound edges firsts components.numbers first first []
  found_start = record {
    below = λ k d lt. absurd (omega (arith, lt));
    exact = λ u k n t at at'. absurd (let w = slice_get_within [] k n at' in omega (arith, w));
  }

  -- one group more
  pub found_more : (old new : List (List Bool)) (found parts : List ℕ) (k whole : ℕ) → Extends first old → Extends old new →
      AreNumbers first firsts → length found ≡ k → AreParts edges components.numbers firsts found k parts → IsUnionOf new parts whole →
      AreFound edges firsts components.numbers first old found → AreFound edges firsts components.numbers first new (found ++ whole ∷ [])
  found_more old new found parts k whole more more' within len are union h = record {
    below = All-push (λ n. n < length new) found whole (numbers_kept old new found more' h.below) union.within;
    exact = λ u j n t at at'. elim (at_push found whole n j at') [
      | inl before ↦
          let below_old : n < length old = All-contains (λ n. n < length old) found n h.below (contains_at found n j before) in
          let same = extended_at old new n more' below_old in
          let exact = h.exact u j n t at before in
          (λ has. exact.0 (subst (λ z. IsMember z t) same has), λ comes. subst (λ z. IsMember z t) (sym same) (exact.1 comes))
      | inr (last, same) ↦
          let exact = group_exact old new found parts k whole more more' within len are union h u t
          (subst (λ z. slice_get components.numbers u ≡ Some z) (last ∙ len) at) in (
            λ has. exact.0 (subst (λ z. IsMember (set_at new z) t) (sym same) has),
            λ comes. subst (λ z. IsMember (set_at new z) t) same (exact.1 comes),
          )
    ];
  }

  -- the numbers that a group takes are there
  pub parts_below : (old : List (List Bool)) (found parts : List ℕ) (k : ℕ) → Extends first old → AreNumbers first firsts →
      AreNumbers old found → AreParts edges components.numbers firsts found k parts → AreNumbers old parts
  parts_below old found parts k more within below_found are = all_in parts (λ n of. elim ((are n).0 of) [
    | inl (v, _, (_, at_n)) ↦
        let lt : n < length first = All-contains (λ n. n < length first) firsts n within (contains_at firsts n v at_n) in
        let le = extended_len first old more in omega (arith, lt, le)
    | inr (j, _, (e, i, _, _, _, _, at_n)) ↦ All-contains (λ n. n < length old) found n below_found (contains_at found n i at_n)
  ])
    where
      all_in : (xs : List ℕ) → ((n : ℕ) → Contains xs n → n < length old) → All (λ n. n < length old) xs
      all_in xs each k d lt = each (get_or xs k d) (Contains-get_or xs k d lt)

  -- each vertex has the number of its group
  pub numbers_spread : (new : List (List Bool)) (found numbers : List ℕ) → AreFound edges firsts components.numbers first new found →
      length numbers ≡ length firsts →
      ((u n : ℕ) → slice_get numbers u ≡ Some n → (k : ℕ) × (slice_get components.numbers u ≡ Some k) × (slice_get found k ≡ Some n)) →
      AreSpread edges firsts first new numbers
  numbers_spread new found numbers h len each = record {
    len = len;
    below = λ i d lt. (let (k, _, at) = each i _ (at_default i d lt) in
        All-contains (λ n. n < length new) found _ h.below (contains_at found _ k at));
    exact = λ u n t at. (let (k, at_k, at_n) = each u n at in h.exact u k n t at_k at_n);
  }
    where
      at_default : (i d : ℕ) → i < length numbers → slice_get numbers i ≡ Some (get_or numbers i d)
      at_default i d lt = slice_get-get_or numbers i d lt
