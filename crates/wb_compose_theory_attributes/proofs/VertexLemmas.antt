-- New numbers of vertices: no two become one, and what a new vertex comes from.
use Rattle.std.proofs.Common.{◌≡◌, ◌∷◌, [], ℕ, List, Contains, map, refl, sym, ap, subst, inl, inr}
use Rattle.wb_lemmas.proofs.Members.{nothing_in, contains_cases, contains_first, contains_later}
use Rattle.wb_flow_theory.specs.Vertices.{Made, local, forward, Step, child, made, Vertex, top_synthesized, top_inherited, synthesized}
use Rattle.wb_flow_theory.specs.Vertices.{inherited, tree_of}
use Rattle.wb_compose_theory_attributes.specs.Numbers.{NumberMap, IsOneToOne, new_made, new_step, new_vertex}

pub contains_map : {X Y : Type 0} (f : X → Y) (xs : List X) (y : Y) → Contains (map f xs) y → (x : X) × (y ≡ f x) × Contains xs x
contains_map f [] y has = absurd (nothing_in y has)
contains_map f (x ∷ xs) y has = elim (contains_cases (f x) y (map f xs) has) [
  | inl first ↦ (x, sym first, contains_first x xs)
  | inr later ↦ let (z, is, there) = contains_map f xs y later in (z, is, contains_later x z xs there)
]

pub map_contains : {X Y : Type 0} (f : X → Y) (xs : List X) (x : X) → Contains xs x → Contains (map f xs) (f x)
map_contains f [] x has = absurd (nothing_in x has)
map_contains f (y ∷ xs) x has = elim (contains_cases y x xs has) [
  | inl first ↦ subst (λ z. Contains (map f (y ∷ xs)) (f z)) first (contains_first (f y) (map f xs))
  | inr later ↦ contains_later (f y) (f x) (map f xs) (map_contains f xs x later)
]

module _ (t : NumberMap) (once : IsOneToOne t) (p : ℕ) where
  pub made_once : (m n : Made) → new_made t p m ≡ new_made t p n → m ≡ n
  made_once (local x) (local y) is = let equal : t.local_in p x ≡ t.local_in p y = cc is in ap local (once.local_in p x y equal)
  made_once (local x) forward is = absurd (cc is)
  made_once forward (local y) is = absurd (cc is)
  made_once forward forward is = refl

  pub step_once : (s r : Step) → new_step t p s ≡ new_step t p r → s ≡ r
  step_once (child k) (child l) is = is
  step_once (child k) (made n) is = absurd (cc is)
  step_once (made m) (child l) is = absurd (cc is)
  step_once (made m) (made n) is = let equal : new_made t p m ≡ new_made t p n = cc is in ap made (made_once m n equal)

  pub vertex_once : (v x : Vertex) → new_vertex t p v ≡ new_vertex t p x → v ≡ x
  vertex_once (top_synthesized a) (top_synthesized b) is =
      let equal : t.attribute a ≡ t.attribute b = cc is in ap top_synthesized (once.attribute a b equal)
  vertex_once (top_synthesized a) (top_inherited b) is = absurd (cc is)
  vertex_once (top_synthesized a) (synthesized r b) is = absurd (cc is)
  vertex_once (top_synthesized a) (inherited r b) is = absurd (cc is)
  vertex_once (top_synthesized a) (tree_of n) is = absurd (cc is)
  vertex_once (top_inherited a) (top_synthesized b) is = absurd (cc is)
  vertex_once (top_inherited a) (top_inherited b) is =
      let equal : t.attribute a ≡ t.attribute b = cc is in ap top_inherited (once.attribute a b equal)
  vertex_once (top_inherited a) (synthesized r b) is = absurd (cc is)
  vertex_once (top_inherited a) (inherited r b) is = absurd (cc is)
  vertex_once (top_inherited a) (tree_of n) is = absurd (cc is)
  vertex_once (synthesized s a) (top_synthesized b) is = absurd (cc is)
  vertex_once (synthesized s a) (top_inherited b) is = absurd (cc is)
  vertex_once (synthesized s a) (synthesized r b) is =
      let equal : t.attribute a ≡ t.attribute b = cc is in
      let steps : new_step t p s ≡ new_step t p r = cc is in
      let one = once.attribute a b equal in
      let other = step_once s r steps in
      cc (one, other)
  vertex_once (synthesized s a) (inherited r b) is = absurd (cc is)
  vertex_once (synthesized s a) (tree_of n) is = absurd (cc is)
  vertex_once (inherited s a) (top_synthesized b) is = absurd (cc is)
  vertex_once (inherited s a) (top_inherited b) is = absurd (cc is)
  vertex_once (inherited s a) (synthesized r b) is = absurd (cc is)
  vertex_once (inherited s a) (inherited r b) is =
      let equal : t.attribute a ≡ t.attribute b = cc is in
      let steps : new_step t p s ≡ new_step t p r = cc is in
      let one = once.attribute a b equal in
      let other = step_once s r steps in
      cc (one, other)
  vertex_once (inherited s a) (tree_of n) is = absurd (cc is)
  vertex_once (tree_of m) (top_synthesized b) is = absurd (cc is)
  vertex_once (tree_of m) (top_inherited b) is = absurd (cc is)
  vertex_once (tree_of m) (synthesized r b) is = absurd (cc is)
  vertex_once (tree_of m) (inherited r b) is = absurd (cc is)
  vertex_once (tree_of m) (tree_of n) is =
      let equal : new_made t p m ≡ new_made t p n = cc is in ap tree_of (made_once m n equal)

module _ (t : NumberMap) (p : ℕ) where
  -- what a new vertex of each form comes from
  pub synthesized_from : (x : Vertex) (s : Step) (a : ℕ) → synthesized s a ≡ new_vertex t p x
      → (r : Step) × (b : ℕ) × (x ≡ synthesized r b) × (s ≡ new_step t p r) × (a ≡ t.attribute b)
  synthesized_from (top_synthesized b) s a is = absurd (cc is)
  synthesized_from (top_inherited b) s a is = absurd (cc is)
  synthesized_from (synthesized r b) s a is = (r, b, refl, (cc is), (cc is))
  synthesized_from (inherited r b) s a is = absurd (cc is)
  synthesized_from (tree_of m) s a is = absurd (cc is)

  pub top_inherited_from : (x : Vertex) (i : ℕ) → top_inherited i ≡ new_vertex t p x
      → (j : ℕ) × (x ≡ top_inherited j) × (i ≡ t.attribute j)
  top_inherited_from (top_synthesized b) i is = absurd (cc is)
  top_inherited_from (top_inherited j) i is = (j, refl, (cc is))
  top_inherited_from (synthesized r b) i is = absurd (cc is)
  top_inherited_from (inherited r b) i is = absurd (cc is)
  top_inherited_from (tree_of m) i is = absurd (cc is)

  pub inherited_from : (x : Vertex) (s : Step) (i : ℕ) → inherited s i ≡ new_vertex t p x
      → (r : Step) × (j : ℕ) × (x ≡ inherited r j) × (s ≡ new_step t p r) × (i ≡ t.attribute j)
  inherited_from (top_synthesized b) s i is = absurd (cc is)
  inherited_from (top_inherited b) s i is = absurd (cc is)
  inherited_from (synthesized r b) s i is = absurd (cc is)
  inherited_from (inherited r j) s i is = (r, j, refl, (cc is), (cc is))
  inherited_from (tree_of m) s i is = absurd (cc is)

  pub top_synthesized_from : (x : Vertex) (a : ℕ) → top_synthesized a ≡ new_vertex t p x
      → (b : ℕ) × (x ≡ top_synthesized b) × (a ≡ t.attribute b)
  top_synthesized_from (top_synthesized b) a is = (b, refl, (cc is))
  top_synthesized_from (top_inherited b) a is = absurd (cc is)
  top_synthesized_from (synthesized r b) a is = absurd (cc is)
  top_synthesized_from (inherited r b) a is = absurd (cc is)
  top_synthesized_from (tree_of m) a is = absurd (cc is)

  pub made_from : (s : Step) (k : Made) → made k ≡ new_step t p s → (m : Made) × (s ≡ made m) × (k ≡ new_made t p m)
  made_from (child l) k is = absurd (cc is)
  made_from (made m) k is = (m, refl, (cc is))

  pub forward_from : (s : Step) → new_step t p s ≡ made forward → s ≡ made forward
  forward_from (child k) is = absurd (cc is)
  forward_from (made (local x)) is = absurd (cc is)
  forward_from (made forward) is = refl
